-- What contracts see of units: each offset as its number, and the entries as the input that the reader represents.
use Rattle.std.specs.Prelude.{ℕ}
use Rattle.dwarf_read_core.specs.Contributions.{Contribution}
use Rattle.dwarf_read_core.specs.Input.{Input}
use Rattle.dwarf_unit_core.specs.declared.header.UnitType.{UnitType}
use Rattle.dwarf_unit_core.specs.declared.header.UnitType.TheVariants.{Compilation, Partial, Skeleton, SplitCompilation, SplitType, «Type» as TypeUnit}
use Rattle.dwarf_unit_core.specs.declared.header.UnitFields.{UnitFields}
use Rattle.dwarf_unit_core.specs.declared.unit.UnitHeader.{UnitHeader}

-- the type of a unit, with numbers for offsets
abbrev pub seen_type : {O : Type 0} → (O → ℕ) → UnitType O → UnitType ℕ
seen_type value Compilation = Compilation
seen_type value (TypeUnit signature place) = TypeUnit signature (record { 0 = value place.0 })
seen_type value Partial = Partial
seen_type value (Skeleton id) = Skeleton id
seen_type value (SplitCompilation id) = SplitCompilation id
seen_type value (SplitType signature place) = SplitType signature (record { 0 = value place.0 })

-- the fields of a header, with numbers for offsets
abbrev pub seen_fields : {O : Type 0} → (O → ℕ) → UnitFields O → UnitFields ℕ
seen_fields value fields =
    record {
      version = fields.version;
      address_size = fields.address_size;
      abbrev_offset = value fields.abbrev_offset;
      unit_type = seen_type value fields.unit_type;
    }

-- the contribution that a unit is
abbrev pub seen_unit : {R E O : Type 0} → (O → ℕ) → (R → Input) → UnitHeader R O E O → Contribution (UnitFields ℕ)
seen_unit value input unit =
    record {
      offset = value unit.offset;
      format = unit.format;
      unit_length = value unit.unit_length;
      header = seen_fields value unit.fields;
      entries = input unit.entries;
    }
