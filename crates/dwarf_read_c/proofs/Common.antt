-- Names that the proofs of this crate cite from elsewhere, passed on from one place.
pub use Rattle.std.proofs.Common.{◌≡◌, ◌≢◌, Bool, true, if◌then◌else◌, ℕ, ◌+◌, ◌-◌, ◌/◌, ◌<◌, ◌≤◌, ◌^◌, List, [], ◌∷◌, length, drop}
pub use Rattle.std.proofs.Common.{Result, Ok, Err, subst, arith, ◌⊎◌, inl, inr, length-drop, take, suc, ◌++◌, refl}
pub use Rattle.std.proofs.Common.{sym, ap, ◌∙◌, sum_by, false, map, length-append}
pub use Rattle.std.proofs.lemmas.Grind.{common_steps}
pub use Rattle.std.specs.FinMap.{entries, len, values, len-entries}
pub use Rattle.dwarf_read_core.specs.Faults.{IsTooShort, CloneRanOutOfMemory, eof}
pub use Rattle.dwarf_read_core.specs.Grammar.{Declaration, ByCode}
pub use Rattle.dwarf_read_core.specs.Input.{Input, after}
pub use Rattle.dwarf_read_core.specs.Leb128.{Kind, ReadsNoLeb128}
pub use Rattle.dwarf_read_core.specs.Headers.{AddressHeaderRead, StringOffsetsHeaderRead}
pub use Rattle.dwarf_read_core.specs.Contributions.{Contribution, addresses_of, string_offsets_of}
pub use Rattle.dwarf_read_core.proofs.public.Headers.{address_header-sizes, string_offsets_header-sizes}
pub use Rattle.dwarf_read_core.specs.Strings.{StringAt}
pub use Rattle.dwarf_read_core.specs.declared.Error.{Error}
pub use Rattle.dwarf_fault.specs.Fault.{IsKnown, error_number, fault_of}
pub use Rattle.dwarf_fault.specs.declared.DwarfFault.{DwarfFault}
pub use Rattle.dwarf_read_c.specs.Fault.{Rejects}
pub use Rattle.dwarf_read_c.specs.Numbers.{HasNoLeb128, cut, bad}
pub use Rattle.dwarf_read_c.specs.Sections.{section_of, part_of}
pub use Rattle.dwarf_read_c.specs.Sets.{TellsSet, set_to}
pub use Rattle.dwarf_read_c.specs.Tables.{abbreviation_of, laid_from, attribute_of, attributes_in}
