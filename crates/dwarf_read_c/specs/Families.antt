-- The families of constants, by their numbers. tools/constants writes the list and what it imports.
use Rattle.std.specs.Prelude.{ℕ, List, [], ◌∷◌, ◌==◌, Option, option_and_then}
use Rattle.std.specs.Map.{lookup}
use Rattle.dwarf_const_core.specs.DwAt.{attribute_names}
use Rattle.dwarf_const_core.specs.DwForm.{form_names}
use Rattle.dwarf_const_core.specs.DwIdx.{index_attribute_names}
use Rattle.dwarf_const_core.specs.DwLang.{language_names}
use Rattle.dwarf_const_core.specs.DwLnct.{line_content_names}
use Rattle.dwarf_const_core.specs.DwTag.{tag_names}
use Rattle.dwarf_const_core.specs.Names.{name_of}
use Rattle.dwarf_code_core.specs.DwAccess.{accessibility_names}
use Rattle.dwarf_code_core.specs.DwAddr.{address_class_names}
use Rattle.dwarf_code_core.specs.DwAte.{base_type_encoding_names}
use Rattle.dwarf_code_core.specs.DwCc.{calling_convention_names}
use Rattle.dwarf_code_core.specs.DwCfa.{call_frame_names}
use Rattle.dwarf_code_core.specs.DwChildren.{children_names}
use Rattle.dwarf_code_core.specs.DwDefaulted.{defaulted_names}
use Rattle.dwarf_code_core.specs.DwDs.{decimal_sign_names}
use Rattle.dwarf_code_core.specs.DwDsc.{discriminant_names}
use Rattle.dwarf_code_core.specs.DwEhPe.{pointer_encoding_names}
use Rattle.dwarf_code_core.specs.DwEnd.{endianity_names}
use Rattle.dwarf_code_core.specs.DwId.{identifier_case_names}
use Rattle.dwarf_code_core.specs.DwInl.{inlining_names}
use Rattle.dwarf_code_core.specs.DwLle.{location_list_entry_names}
use Rattle.dwarf_code_core.specs.DwLne.{line_extended_names}
use Rattle.dwarf_code_core.specs.DwLns.{line_standard_names}
use Rattle.dwarf_code_core.specs.DwMacinfo.{macinfo_names}
use Rattle.dwarf_code_core.specs.DwMacro.{macro_entry_names}
use Rattle.dwarf_code_core.specs.DwOp.{operation_names}
use Rattle.dwarf_code_core.specs.DwOrd.{array_ordering_names}
use Rattle.dwarf_code_core.specs.DwRle.{range_list_entry_names}
use Rattle.dwarf_code_core.specs.DwSect.{section_names}
use Rattle.dwarf_code_core.specs.DwSectV2.{section_v2_names}
use Rattle.dwarf_code_core.specs.DwUt.{unit_type_names}
use Rattle.dwarf_code_core.specs.DwVirtuality.{virtuality_names}
use Rattle.dwarf_code_core.specs.DwVis.{visibility_names}
use Rattle.dwarf_code_core.specs.GdbIndexSymbolKind.{gdb_index_symbol_kind_names}

-- the number of each family, and the values and names of its constants
unfoldable pub families : List (ℕ × List (ℕ × List ℕ))
families =
    (1, tag_names) ∷
    (2, attribute_names) ∷
    (3, form_names) ∷
    (4, index_attribute_names) ∷
    (5, language_names) ∷
    (6, line_content_names) ∷
    (7, accessibility_names) ∷
    (8, address_class_names) ∷
    (9, base_type_encoding_names) ∷
    (10, calling_convention_names) ∷
    (11, call_frame_names) ∷
    (12, children_names) ∷
    (13, defaulted_names) ∷
    (14, decimal_sign_names) ∷
    (15, discriminant_names) ∷
    (16, pointer_encoding_names) ∷
    (17, endianity_names) ∷
    (18, identifier_case_names) ∷
    (19, inlining_names) ∷
    (20, location_list_entry_names) ∷
    (21, line_extended_names) ∷
    (22, line_standard_names) ∷
    (23, macinfo_names) ∷
    (24, macro_entry_names) ∷
    (25, operation_names) ∷
    (26, array_ordering_names) ∷
    (27, range_list_entry_names) ∷
    (28, section_names) ∷
    (29, section_v2_names) ∷
    (30, unit_type_names) ∷
    (31, virtuality_names) ∷
    (32, visibility_names) ∷
    (33, gdb_index_symbol_kind_names) ∷
    []

-- the name that a value has in the family with this number, if there is one
abbrev pub name_in : ℕ → ℕ → Option (List ℕ)
name_in family value =
    option_and_then (λ names. name_of names value) (lookup (λ number. number == family) families)
