-- A value that the type of its family can't hold has no name. tools/constants writes the imports of the families and
-- what `names_are_below` unfolds.
use Rattle.std.specs.List.{list_all}
use Rattle.std.specs.Map.{lookup}
use Rattle.std.proofs.lemmas.Bool.Decides.{nat_tests}
use Rattle.std.proofs.Common.{◌≡◌, ℕ, ◌≤◌, ◌==◌, ◌^◌, true, List, [], ◌∷◌, Option, None, option_map, Bor, nat_lt, if◌then◌else◌, option_and_then, refl, arith}
use Rattle.dwarf_const_core.specs.Names.{name_of}
use Rattle.dwarf_const_core.specs.DwAt.{attribute_names}
use Rattle.dwarf_const_core.specs.DwForm.{form_names}
use Rattle.dwarf_const_core.specs.DwIdx.{index_attribute_names}
use Rattle.dwarf_const_core.specs.DwLang.{language_names}
use Rattle.dwarf_const_core.specs.DwLnct.{line_content_names}
use Rattle.dwarf_const_core.specs.DwTag.{tag_names}
use Rattle.dwarf_code_core.specs.DwAccess.{accessibility_names}
use Rattle.dwarf_code_core.specs.DwAddr.{address_class_names}
use Rattle.dwarf_code_core.specs.DwAte.{base_type_encoding_names}
use Rattle.dwarf_code_core.specs.DwCc.{calling_convention_names}
use Rattle.dwarf_code_core.specs.DwCfa.{call_frame_names}
use Rattle.dwarf_code_core.specs.DwChildren.{children_names}
use Rattle.dwarf_code_core.specs.DwDefaulted.{defaulted_names}
use Rattle.dwarf_code_core.specs.DwDs.{decimal_sign_names}
use Rattle.dwarf_code_core.specs.DwDsc.{discriminant_names}
use Rattle.dwarf_code_core.specs.DwEhPe.{pointer_encoding_names}
use Rattle.dwarf_code_core.specs.DwEnd.{endianity_names}
use Rattle.dwarf_code_core.specs.DwId.{identifier_case_names}
use Rattle.dwarf_code_core.specs.DwInl.{inlining_names}
use Rattle.dwarf_code_core.specs.DwLle.{location_list_entry_names}
use Rattle.dwarf_code_core.specs.DwLne.{line_extended_names}
use Rattle.dwarf_code_core.specs.DwLns.{line_standard_names}
use Rattle.dwarf_code_core.specs.DwMacinfo.{macinfo_names}
use Rattle.dwarf_code_core.specs.DwMacro.{macro_entry_names}
use Rattle.dwarf_code_core.specs.DwOp.{operation_names}
use Rattle.dwarf_code_core.specs.DwOrd.{array_ordering_names}
use Rattle.dwarf_code_core.specs.DwRle.{range_list_entry_names}
use Rattle.dwarf_code_core.specs.DwSect.{section_names}
use Rattle.dwarf_code_core.specs.DwSectV2.{section_v2_names}
use Rattle.dwarf_code_core.specs.DwUt.{unit_type_names}
use Rattle.dwarf_code_core.specs.DwVirtuality.{virtuality_names}
use Rattle.dwarf_code_core.specs.DwVis.{visibility_names}
use Rattle.dwarf_code_core.specs.GdbIndexSymbolKind.{gdb_index_symbol_kind_names}
use Rattle.dwarf_read_c.specs.Families.{families, name_in}

-- how many values the type of a family has
abbrev pub bound_of : ℕ → ℕ
bound_of family =
    if nat_lt family 7 then 2 ^ 16
    else (if family == 8 then 2 ^ 64 else (if family == 28 then 2 ^ 32 else (if family == 29 then 2 ^ 32 else 2 ^ 8)))

-- if each value of a list is below a bound, a value that isn't has no name
no_name_above : (names : List (ℕ × List ℕ)) (bound value : ℕ) → list_all (λ named. nat_lt named.0 bound) names ≡ true
    → bound ≤ value → name_of names value ≡ None
no_name_above [] bound value below above = refl
no_name_above (named ∷ names) bound value below above = grind (arith, nat_tests, no_name_above names bound value)

-- the same for lists that each have a number, and for a bound by that number
none_above : (lists : List (ℕ × List (ℕ × List ℕ))) (bound : ℕ → ℕ) (number value : ℕ)
    → list_all (λ l. list_all (λ named. nat_lt named.0 (bound l.0)) l.1) lists ≡ true → bound number ≤ value
    → option_and_then (λ names. name_of names value) (lookup (λ other. other == number) lists) ≡ None
none_above [] bound number value below above = refl
none_above (list ∷ lists) bound number value below above =
    grind (arith, nat_tests, no_name_above list.1 (bound list.0) value, none_above lists bound number value)

-- each named value of a family is one that the type of the family has
names_are_below : list_all (λ f. list_all (λ named. nat_lt named.0 (bound_of f.0)) f.1) families ≡ true
unfolding families tag_names attribute_names form_names index_attribute_names language_names line_content_names
    accessibility_names address_class_names base_type_encoding_names calling_convention_names call_frame_names
    children_names defaulted_names decimal_sign_names discriminant_names pointer_encoding_names endianity_names
    identifier_case_names inlining_names location_list_entry_names line_extended_names line_standard_names
    macinfo_names macro_entry_names operation_names array_ordering_names range_list_entry_names section_names
    section_v2_names unit_type_names virtuality_names visibility_names gdb_index_symbol_kind_names
names_are_below = refl

-- where nothing is found for a value that the type of a family can't hold, it has no name
pub unnamed : (family value : ℕ) (found : Option (Bor (List ℕ))) → found ≡ None → bound_of family ≤ value
    → option_map (λ s. s.now) found ≡ name_in family value
unnamed family value found none above = rw (none, none_above families bound_of family value names_are_below above) refl
