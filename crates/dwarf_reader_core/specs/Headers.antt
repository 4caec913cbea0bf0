-- What a header after an initial length is, and what those of sets say (DWARF 5, 7.26 and 7.27).
use Rattle.std.specs.Prelude.{ℕ, ⊤, ◌==◌, Ok}
use Rattle.dwarf_base_core.specs.declared.common.Format.{Format}
use Rattle.dwarf_base_core.specs.declared.error.Error.TheVariants.{UnknownVersion, UnsupportedSegmentSize}
use Rattle.dwarf_reader_core.specs.Readings.{AddressSizeRead, Given, IsRead, NumberRead, Reading, Required, ◌>>=◌}

-- what a kind of header is, where offsets have a greatest number and the part has a format: what is read at the front of
-- the part that an initial length measures
abbrev pub Header : Type 0 → Type 1
Header H = ℕ → Format → Reading H

-- the next bytes decide everything about a header of this kind
abbrev pub IsHeader : {H : Type 0} → Header H → Type 0
IsHeader header = (greatest : ℕ) (format : Format) → IsRead (header greatest format)

-- the version of a set, which has to be 5
abbrev pub VersionRead : Reading ⊤
VersionRead = do
  version ← NumberRead 2
  Required (version == 5) (UnknownVersion version)

-- the header of a set of addresses says their size; after it is the segment size, which has to be 0
abbrev pub AddressHeaderRead : Header ℕ
AddressHeaderRead greatest format = do
  _ ← VersionRead
  size ← AddressSizeRead
  segment ← NumberRead 1
  _ ← Required (segment == 0) (UnsupportedSegmentSize segment)
  Given (Ok size)

-- the header of a set of string offsets says nothing after its version but two bytes of any value
abbrev pub StringOffsetsHeaderRead : Header (Unit {0})
StringOffsetsHeaderRead greatest format = do
  _ ← VersionRead
  _ ← NumberRead 2
  Given (Ok tt)
