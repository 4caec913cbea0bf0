-- The headers of sets are readings of four bytes.
use Rattle.std.specs.Prelude.{◌==◌}
use Rattle.dwarf_reader_core.proofs.Common.{◌≡◌, ℕ, IsTrue, [], ◌∷◌, Ok, Err, refl, arith, Input, Takes, TakesNumber, eof}
use Rattle.dwarf_base_core.specs.declared.common.Format.{Format}
use Rattle.dwarf_base_core.specs.declared.error.Error.TheVariants.{UnknownVersion, UnsupportedSegmentSize}
use Rattle.dwarf_reader_core.specs.Faults.{IsCutIn, is_number_size}
use Rattle.dwarf_reader_core.specs.Headers.{AddressHeaderRead, IsHeader, StringOffsetsHeaderRead, VersionRead}
use Rattle.dwarf_reader_core.specs.Readings.{IsRead}
use Rattle.dwarf_reader_core.proofs.public.MissingFields.{HasSizes, address_size-sizes, field-sizes, initial_length_cut, number-sizes, required-sizes, test-sizes, value-sizes}
use Rattle.dwarf_reader_core.proofs.public.Readings.{address_size-is, number-is, required-is, required-ok, then-is, value-is}

-- ---- they are readings

-- the version of a set is a reading
pub version-is : IsRead VersionRead
version-is =
    then-is (number-is 2) (λ version. required-is (version == 5) (UnknownVersion version) (λ position same. grind arith))

-- the header of a set of addresses is one
pub address_header : IsHeader AddressHeaderRead
address_header greatest format =
    then-is version-is (λ known.
    then-is address_size-is (λ size.
    then-is (number-is 1) (λ segment.
    then-is (required-is (segment == 0) (UnsupportedSegmentSize segment) (λ position same. grind arith)) (λ flat.
    value-is size))))

-- so is that of a set of string offsets
pub string_offsets_header : IsHeader StringOffsetsHeaderRead
string_offsets_header greatest format =
    then-is version-is (λ known. then-is (number-is 2) (λ padding. value-is tt))

-- a version that is read is passed if it is 5
pub version-known : {old mid : Input} {version : ℕ} → TakesNumber 2 old version mid → version ≡ 5
    → VersionRead old (Ok tt, mid)
version-known {version = v} takes known = (v, _, takes, required-ok (UnknownVersion v) (rw known refl))

-- ---- they have four bytes

-- the version has two bytes
version-sizes : HasSizes (2 ∷ []) 2 VersionRead
version-sizes =
    field-sizes (number-sizes 2)
    (λ version. required-sizes (version == 5) (UnknownVersion version) (λ position same. grind arith))

module _ (greatest : ℕ) (format : Format) where
  -- the sizes of a header of addresses have one byte each
  pub address_header-sizes : HasSizes (2 ∷ 1 ∷ 1 ∷ []) 4 (AddressHeaderRead greatest format)
  address_header-sizes =
      field-sizes version-sizes (λ known.
      field-sizes address_size-sizes (λ size.
      field-sizes (number-sizes 1) (λ segment.
      test-sizes (required-sizes (segment == 0) (UnsupportedSegmentSize segment) (λ position same. grind arith)) (λ flat.
      value-sizes size))))

  -- the padding of a header of string offsets has two
  pub string_offsets_header-sizes : HasSizes (2 ∷ 2 ∷ []) 4 (StringOffsetsHeaderRead greatest format)
  string_offsets_header-sizes =
      field-sizes version-sizes (λ known.
      field-sizes (number-sizes 2) (λ padding. value-sizes tt))

-- a header of addresses has four bytes
pub address_header-four : (greatest : ℕ) (format : Format) (unit rest : Input) (size : ℕ)
    → AddressHeaderRead greatest format unit (Ok size, rest) → Takes 4 unit rest
address_header-four greatest format unit rest size is = (address_header-sizes greatest format).takes unit rest size is

-- so has one of string offsets
pub offsets_header-four : (greatest : ℕ) (format : Format) (unit rest : Input)
    → StringOffsetsHeaderRead greatest format unit (Ok tt, rest) → Takes 4 unit rest
offsets_header-four greatest format unit rest is = (string_offsets_header-sizes greatest format).takes unit rest tt is

-- how many bytes the headers of sets have
pub ruleset four_bytes = (address_header-four, offsets_header-four)

-- what a header of addresses says is a size of addresses
pub address_header-sized : (greatest : ℕ) (format : Format) (unit rest : Input) (size : ℕ)
    → AddressHeaderRead greatest format unit (Ok size, rest) → IsTrue (is_number_size size)
address_header-sized greatest format unit rest size (_, _, _, (read, _, sized, (_, _, _, (_, _, _, same)))) =
    grind (arith, sized.1)

-- the bytes of a header of addresses are cut in one of its fields
pub address_header_cut : (greatest : ℕ) (format : Format) (unit new : Input) (position : ℕ)
    → AddressHeaderRead greatest format unit (Err (eof position), new) → IsCutIn unit (2 ∷ 1 ∷ 1 ∷ []) (eof position)
address_header_cut greatest format unit new position is = (address_header-sizes greatest format).cut unit new position is

-- those of a header of string offsets, too
pub offsets_header_cut : (greatest : ℕ) (format : Format) (unit new : Input) (position : ℕ)
    → StringOffsetsHeaderRead greatest format unit (Err (eof position), new) → IsCutIn unit (2 ∷ 2 ∷ []) (eof position)
offsets_header_cut greatest format unit new position is =
    (string_offsets_header-sizes greatest format).cut unit new position is

-- where the bytes of headers and initial lengths are cut
pub ruleset missing_fields = (address_header_cut, offsets_header_cut, initial_length_cut)
