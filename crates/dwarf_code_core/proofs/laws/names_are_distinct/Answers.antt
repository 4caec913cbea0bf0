-- The values of each list rise, so no value occurs twice. tools/constants writes this file.
use Rattle.std.proofs.Common.{refl}
use Rattle.dwarf_code_core.specs.DwAccess.{accessibility_names}
use Rattle.dwarf_code_core.specs.DwAddr.{address_class_names}
use Rattle.dwarf_code_core.specs.DwAte.{base_type_encoding_names}
use Rattle.dwarf_code_core.specs.DwCc.{calling_convention_names}
use Rattle.dwarf_code_core.specs.DwCfa.{call_frame_names}
use Rattle.dwarf_code_core.specs.DwChildren.{children_names}
use Rattle.dwarf_code_core.specs.DwDefaulted.{defaulted_names}
use Rattle.dwarf_code_core.specs.DwDs.{decimal_sign_names}
use Rattle.dwarf_code_core.specs.DwDsc.{discriminant_names}
use Rattle.dwarf_code_core.specs.DwEhPe.{pointer_encoding_names}
use Rattle.dwarf_code_core.specs.DwEnd.{endianity_names}
use Rattle.dwarf_code_core.specs.DwId.{identifier_case_names}
use Rattle.dwarf_code_core.specs.DwInl.{inlining_names}
use Rattle.dwarf_code_core.specs.DwLle.{location_list_entry_names}
use Rattle.dwarf_code_core.specs.DwLne.{line_extended_names}
use Rattle.dwarf_code_core.specs.DwLns.{line_standard_names}
use Rattle.dwarf_code_core.specs.DwMacinfo.{macinfo_names}
use Rattle.dwarf_code_core.specs.DwMacro.{macro_entry_names}
use Rattle.dwarf_code_core.specs.DwOp.{operation_names}
use Rattle.dwarf_code_core.specs.DwOrd.{array_ordering_names}
use Rattle.dwarf_code_core.specs.DwRle.{range_list_entry_names}
use Rattle.dwarf_code_core.specs.DwSect.{section_names}
use Rattle.dwarf_code_core.specs.DwSectV2.{section_v2_names}
use Rattle.dwarf_code_core.specs.DwUt.{unit_type_names}
use Rattle.dwarf_code_core.specs.DwVirtuality.{virtuality_names}
use Rattle.dwarf_code_core.specs.DwVis.{visibility_names}
use Rattle.dwarf_code_core.specs.GdbIndexSymbolKind.{gdb_index_symbol_kind_names}
use Rattle.dwarf_const_core.proofs.public.Search.{distinct_from_rising}
use Rattle.dwarf_code_core.proofs.laws.names_are_distinct.Goals as goal

pub returns-clause-accessibility : goal.returns-clause-accessibility
unfolding accessibility_names
returns-clause-accessibility c = distinct_from_rising accessibility_names refl

pub returns-clause-address_class : goal.returns-clause-address_class
unfolding address_class_names
returns-clause-address_class c = distinct_from_rising address_class_names refl

pub returns-clause-array_ordering : goal.returns-clause-array_ordering
unfolding array_ordering_names
returns-clause-array_ordering c = distinct_from_rising array_ordering_names refl

pub returns-clause-base_type_encoding : goal.returns-clause-base_type_encoding
unfolding base_type_encoding_names
returns-clause-base_type_encoding c = distinct_from_rising base_type_encoding_names refl

pub returns-clause-call_frame : goal.returns-clause-call_frame
unfolding call_frame_names
returns-clause-call_frame c = distinct_from_rising call_frame_names refl

pub returns-clause-calling_convention : goal.returns-clause-calling_convention
unfolding calling_convention_names
returns-clause-calling_convention c = distinct_from_rising calling_convention_names refl

pub returns-clause-children : goal.returns-clause-children
unfolding children_names
returns-clause-children c = distinct_from_rising children_names refl

pub returns-clause-decimal_sign : goal.returns-clause-decimal_sign
unfolding decimal_sign_names
returns-clause-decimal_sign c = distinct_from_rising decimal_sign_names refl

pub returns-clause-defaulted : goal.returns-clause-defaulted
unfolding defaulted_names
returns-clause-defaulted c = distinct_from_rising defaulted_names refl

pub returns-clause-discriminant : goal.returns-clause-discriminant
unfolding discriminant_names
returns-clause-discriminant c = distinct_from_rising discriminant_names refl

pub returns-clause-endianity : goal.returns-clause-endianity
unfolding endianity_names
returns-clause-endianity c = distinct_from_rising endianity_names refl

pub returns-clause-gdb_index_symbol_kind : goal.returns-clause-gdb_index_symbol_kind
unfolding gdb_index_symbol_kind_names
returns-clause-gdb_index_symbol_kind c = distinct_from_rising gdb_index_symbol_kind_names refl

pub returns-clause-identifier_case : goal.returns-clause-identifier_case
unfolding identifier_case_names
returns-clause-identifier_case c = distinct_from_rising identifier_case_names refl

pub returns-clause-inlining : goal.returns-clause-inlining
unfolding inlining_names
returns-clause-inlining c = distinct_from_rising inlining_names refl

pub returns-clause-line_extended : goal.returns-clause-line_extended
unfolding line_extended_names
returns-clause-line_extended c = distinct_from_rising line_extended_names refl

pub returns-clause-line_standard : goal.returns-clause-line_standard
unfolding line_standard_names
returns-clause-line_standard c = distinct_from_rising line_standard_names refl

pub returns-clause-location_list_entry : goal.returns-clause-location_list_entry
unfolding location_list_entry_names
returns-clause-location_list_entry c = distinct_from_rising location_list_entry_names refl

pub returns-clause-macinfo : goal.returns-clause-macinfo
unfolding macinfo_names
returns-clause-macinfo c = distinct_from_rising macinfo_names refl

pub returns-clause-macro_entry : goal.returns-clause-macro_entry
unfolding macro_entry_names
returns-clause-macro_entry c = distinct_from_rising macro_entry_names refl

pub returns-clause-operation : goal.returns-clause-operation
unfolding operation_names
returns-clause-operation c = distinct_from_rising operation_names refl

pub returns-clause-pointer_encoding : goal.returns-clause-pointer_encoding
unfolding pointer_encoding_names
returns-clause-pointer_encoding c = distinct_from_rising pointer_encoding_names refl

pub returns-clause-range_list_entry : goal.returns-clause-range_list_entry
unfolding range_list_entry_names
returns-clause-range_list_entry c = distinct_from_rising range_list_entry_names refl

pub returns-clause-section : goal.returns-clause-section
unfolding section_names
returns-clause-section c = distinct_from_rising section_names refl

pub returns-clause-section_v2 : goal.returns-clause-section_v2
unfolding section_v2_names
returns-clause-section_v2 c = distinct_from_rising section_v2_names refl

pub returns-clause-unit_type : goal.returns-clause-unit_type
unfolding unit_type_names
returns-clause-unit_type c = distinct_from_rising unit_type_names refl

pub returns-clause-virtuality : goal.returns-clause-virtuality
unfolding virtuality_names
returns-clause-virtuality c = distinct_from_rising virtuality_names refl

pub returns-clause-visibility : goal.returns-clause-visibility
unfolding visibility_names
returns-clause-visibility c = distinct_from_rising visibility_names refl
