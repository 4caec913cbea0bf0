-- What the header of a unit says after its initial length (DWARF 5, 7.5.1; DWARF 4, 7.5.1).
use Rattle.std.specs.Prelude.{ℕ, ◌+◌, ◌==◌, ◌&&◌, nat_le, Ok, Err, if◌then◌else◌}
use Rattle.dwarf_read_core.specs.declared.Error.TheVariants.{UnknownVersion, UnknownUnitType}
use Rattle.dwarf_read_core.specs.declared.Format.{Format}
use Rattle.dwarf_read_core.specs.Format.{word_size}
use Rattle.dwarf_read_core.specs.Headers.{Header}
use Rattle.dwarf_read_core.specs.Readings.{AddressSizeRead, Choice, Given, Mapped, NumberRead, Reading, WordRead, ◌>>=◌}
use Rattle.dwarf_unit_core.specs.declared.header.UnitType.{UnitType}
use Rattle.dwarf_unit_core.specs.declared.header.UnitType.TheVariants.{Compilation, Partial, Skeleton, SplitCompilation, SplitType, «Type» as TypeUnit}
use Rattle.dwarf_unit_core.specs.declared.header.UnitFields.{UnitFields}

-- a word of the format, which has to be an offset
abbrev pub offset : ℕ → Format → Reading ℕ
offset greatest format = WordRead greatest (word_size format)

-- the signature of a type, and its offset in the unit
abbrev pub type_fields : ℕ → Format → Reading (ℕ × ℕ)
type_fields greatest format = do
  signature ← NumberRead 8
  place ← offset greatest format
  Given (Ok (signature, place))

-- the fields that only units of one type have
abbrev pub own_fields : ℕ → Format → ℕ → Reading (UnitType ℕ)
own_fields greatest format code =
    Choice (code == 1) (Given (Ok Compilation)) (
    Choice (code == 2) (Mapped (λ t. TypeUnit (record { 0 = t.0 }) (record { 0 = t.1 })) (type_fields greatest format)) (
    Choice (code == 3) (Given (Ok Partial)) (
    Choice (code == 4) (Mapped (λ id. Skeleton (record { 0 = id })) (NumberRead 8)) (
    Choice (code == 5) (Mapped (λ id. SplitCompilation (record { 0 = id })) (NumberRead 8)) (
    Choice (code == 6) (Mapped (λ t. SplitType (record { 0 = t.0 }) (record { 0 = t.1 })) (type_fields greatest format)) (
    Given (Err (UnknownUnitType (record { 0 = code })))))))))

abbrev pub fields : ℕ → ℕ → ℕ → UnitType ℕ → UnitFields ℕ
fields version size table kind =
    record { version = version; address_size = size; abbrev_offset = table; unit_type = kind }

-- the fields after a version before 5, where the section says the unit's type
abbrev pub before_5 : ℕ → Format → ℕ → ℕ → Reading (UnitFields ℕ)
before_5 greatest format code version = do
  table ← offset greatest format
  size ← AddressSizeRead
  kind ← own_fields greatest format code
  Given (Ok (fields version size table kind))

-- the fields after version 5
abbrev pub from_5 : ℕ → Format → Reading (UnitFields ℕ)
from_5 greatest format = do
  code ← NumberRead 1
  size ← AddressSizeRead
  table ← offset greatest format
  kind ← own_fields greatest format code
  Given (Ok (fields 5 size table kind))

-- the fields of a unit in a section whose units before version 5 have this type
abbrev pub unit_fields : ℕ → Format → ℕ → Reading (UnitFields ℕ)
unit_fields greatest format code = do
  version ← NumberRead 2
  Choice (version == 5) (from_5 greatest format)
      (Choice (nat_le 2 version && nat_le version 4) (before_5 greatest format code version)
      (Given (Err (UnknownVersion version))))

-- the types that units before version 5 have in `.debug_info` and in `.debug_types`
abbrev pub compile_unit : ℕ
compile_unit = 1

abbrev pub type_unit : ℕ
type_unit = 2

-- the headers of units in such a section
abbrev pub unit_header : ℕ → Header (UnitFields ℕ)
unit_header code greatest format = unit_fields greatest format code

-- how many bytes the fields have that only units of one type have
abbrev pub own_size : Format → UnitType ℕ → ℕ
own_size format Compilation = 0
own_size format (TypeUnit signature place) = 8 + word_size format
own_size format Partial = 0
own_size format (Skeleton id) = 8
own_size format (SplitCompilation id) = 8
own_size format (SplitType signature place) = 8 + word_size format

-- how many bytes a header has after the initial length
abbrev pub header_size : Format → UnitFields ℕ → ℕ
header_size format x = (if x.version == 5 then 4 else 3) + word_size format + own_size format x.unit_type
