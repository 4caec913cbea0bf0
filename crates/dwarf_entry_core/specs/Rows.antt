-- Values by their bytes, for the rows of laws.
use Rattle.std.specs.Prelude.{◌≤◌, ◌+◌, ◌^◌, ◌++◌, ℕ, List, length, None, Ok, false}
use Rattle.dwarf_read_core.specs.declared.Encoding.{Encoding}
use Rattle.dwarf_read_core.specs.declared.Format.TheVariants.{Dwarf32, Dwarf64}
use Rattle.dwarf_read_core.specs.Input.{Input, section_of}
use Rattle.dwarf_entry_core.specs.Seen.{Seen}
use Rattle.dwarf_entry_core.specs.Values.{ValueRead}

-- the encoding of a unit of version 5 in the 32-bit format, whose addresses have eight bytes
abbrev pub five : Encoding
five = record { address_size = 8; format = Dwarf32; version = 5 }

-- one in the 64-bit format, whose addresses have four bytes
abbrev pub long : Encoding
long = record { address_size = 4; format = Dwarf64; version = 5 }

-- one of version 2, whose addresses have two bytes
abbrev pub two : Encoding
two = record { address_size = 2; format = Dwarf32; version = 2 }

-- bytes at a position, with the lowest byte of a number first
abbrev pub part : ℕ → List ℕ → Input
part position bytes = record { bytes = bytes; position = position; is_big = false }

-- these bytes are a value of a form that the abbreviation has, whatever follows them, if each number of 32 bits is an
-- offset
abbrev pub IsValue : Encoding → ℕ → List ℕ → Seen → Type 0
IsValue e form bytes x =
    (greatest : ℕ) (more : List ℕ) → 2 ^ 32 ≤ greatest + 1
    → ValueRead greatest e (record { name = 3; form = form; value = None }) (section_of (bytes ++ more) false)
    (Ok (form, x), part (length bytes) more)
