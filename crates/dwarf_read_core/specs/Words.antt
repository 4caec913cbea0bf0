-- Numbers that are looked up by an index: offsets of strings (DWARF 5, 7.26) and addresses (7.27).
use Rattle.std.specs.Prelude.{ℕ, ⊤, ◌+◌, ◌*◌, Result, nat_le}
use Rattle.dwarf_base_core.specs.declared.error.Error.{Error}
use Rattle.dwarf_base_core.specs.declared.error.Error.TheVariants.{UnsupportedOffset}
use Rattle.dwarf_reader_core.specs.Input.{Input}
use Rattle.dwarf_reader_core.specs.Readings.{AddressRead, Reading, Required, SkipRead, WordRead, ◌>>=◌}
use Rattle.dwarf_read_core.specs.Lookups.{ReadAt}

-- one of the numbers that follow each other from a base on, each of `width` bytes
pub record Slot : Type 0 where
  pub base : ℕ
  pub index : ℕ
  pub width : ℕ

abbrev pub slot : ℕ → ℕ → ℕ → Slot
slot base index width = record { base = base; index = index; width = width }

-- how many bytes after the base the slot begins
abbrev pub distance : Slot → ℕ
distance s = s.index * s.width

-- the offset of the slot's first byte
abbrev pub slot_offset : Slot → ℕ
slot_offset s = s.base + distance s

-- the bytes before a slot are skipped: those before the base, and then the distance, which has to be an offset
abbrev pub PlaceRead : ℕ → Slot → Reading ⊤
PlaceRead greatest s = do
  _ ← SkipRead s.base
  _ ← Required (nat_le (distance s) greatest) UnsupportedOffset
  SkipRead (distance s)

-- the result for a string offset at a slot: the word, which has to be an offset, or the error that there is none
abbrev pub WordAt : ℕ → Input → Slot → Result ℕ Error → Type 0
WordAt greatest section s = ReadAt (PlaceRead greatest s) (WordRead greatest s.width) section

-- the result for an address at a slot: the address, or the error that there is none
abbrev pub AddressAt : ℕ → Input → Slot → Result ℕ Error → Type 0
AddressAt greatest section s = ReadAt (PlaceRead greatest s) (AddressRead s.width) section
