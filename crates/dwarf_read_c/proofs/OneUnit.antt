-- An offset has at most one unit.
use Rattle.dwarf_read_core.specs.Contributions.{Contribution, ContributionAtOffset, contribution_size}
use Rattle.dwarf_read_core.specs.Headers.{Header}
use Rattle.dwarf_read_core.specs.Once.{HasOne}
use Rattle.dwarf_unit_core.specs.declared.header.UnitFields.{UnitFields}
use Rattle.dwarf_read_c.specs.Units.{TellsUnit, shown_unit}
use Rattle.dwarf_read_c.specs.declared.units.DwarfUnit.{DwarfUnit}
use Rattle.dwarf_read_c.proofs.Common.{◌≡◌, ◌∙◌, ℕ, ◌+◌, ◌-◌, ◌^◌, Result, Ok, Err, sym, ap, Error, Input}

-- what is written of a unit at an offset; of an error, something else
abbrev told : DwarfUnit → ℕ → Result (Contribution (UnitFields ℕ)) Error → DwarfUnit
told other offset (Ok unit) = shown_unit unit (offset + contribution_size unit)
told other offset (Err e) = other

-- if an offset has one result, both are of its unit
pub one_unit : {header : Header (UnitFields ℕ)} {section : Input} {offset : ℕ} {a b : DwarfUnit}
    → HasOne (ContributionAtOffset header (2 ^ 64 - 1) section offset) → TellsUnit header section offset a
    → TellsUnit header section offset b → a ≡ b
one_unit {header} {section} {offset} {a} {b} one first second =
    let same = one.2 (Ok first.unit) first.has ∙ sym (one.2 (Ok second.unit) second.has) in
    first.fields ∙ ap (told a offset) same ∙ sym second.fields
