-- A unit at an offset of a section, as C sees it.
use Rattle.std.specs.Prelude.{◌≡◌, ℕ, ◌+◌, ◌-◌, ◌^◌, Bool, if◌then◌else◌, Ok}
use Rattle.dwarf_read_core.specs.Contributions.{Contribution, ContributionAtOffset, contribution_size}
use Rattle.dwarf_read_core.specs.Format.{word_size}
use Rattle.dwarf_read_core.specs.Headers.{Header}
use Rattle.dwarf_read_core.specs.Input.{Input}
use Rattle.dwarf_unit_core.specs.Fields.{compile_unit, type_unit, unit_header}
use Rattle.dwarf_unit_core.specs.declared.header.UnitFields.{UnitFields}
use Rattle.dwarf_unit_core.specs.declared.header.UnitType.{UnitType}
use Rattle.dwarf_unit_core.specs.declared.header.UnitType.TheVariants.{Compilation, Partial, Skeleton, SplitCompilation, SplitType, «Type» as TypeUnit}
use Rattle.dwarf_read_c.specs.declared.units.DwarfUnit.{DwarfUnit}

-- the type that units before version 5 have in a section: `.debug_types` if this is set, and else `.debug_info`
abbrev pub type_before_5 : Bool → ℕ
type_before_5 is_types = if is_types then type_unit else compile_unit

-- the headers of units in such a section
abbrev pub header_in : Bool → Header (UnitFields ℕ)
header_in is_types = unit_header (type_before_5 is_types)

-- the number of a unit's type (DWARF 5, 7.5.1)
abbrev pub type_number : UnitType ℕ → ℕ
type_number Compilation = 1
type_number (TypeUnit signature place) = 2
type_number Partial = 3
type_number (Skeleton id) = 4
type_number (SplitCompilation id) = 5
type_number (SplitType signature place) = 6

-- the signature of a type, or what a skeleton and its split unit share; units of other types have 0
abbrev pub identifier : UnitType ℕ → ℕ
identifier Compilation = 0
identifier (TypeUnit signature place) = signature.0
identifier Partial = 0
identifier (Skeleton id) = id.0
identifier (SplitCompilation id) = id.0
identifier (SplitType signature place) = signature.0

-- where a type unit defines its type, from the unit's start; units of other types have 0
abbrev pub type_place : UnitType ℕ → ℕ
type_place Compilation = 0
type_place (TypeUnit signature place) = place.0
type_place Partial = 0
type_place (Skeleton id) = 0
type_place (SplitCompilation id) = 0
type_place (SplitType signature place) = place.0

-- a unit as C sees it, where the next one may begin there
abbrev pub shown_unit : Contribution (UnitFields ℕ) → ℕ → DwarfUnit
shown_unit unit next = record {
  next = next;
  unit_length = unit.unit_length;
  first_entry = unit.entries.position;
  abbrev_offset = unit.header.abbrev_offset;
  identifier = identifier unit.header.unit_type;
  type_offset = type_place unit.header.unit_type;
  version = unit.header.version;
  unit_type = type_number unit.header.unit_type;
  address_size = unit.header.address_size;
  word_size = word_size unit.format;
}

-- what is written for C describes a unit that begins at an offset: the next unit may begin where it ends
pub record TellsUnit (header : Header (UnitFields ℕ)) (section : Input) (offset : ℕ) (reported : DwarfUnit) :
    Type 0 where
  pub unit : Contribution (UnitFields ℕ)
  pub has : ContributionAtOffset header (2 ^ 64 - 1) section offset (Ok unit)
  pub fields : reported ≡ shown_unit unit (offset + contribution_size unit)
