-- The sizes of lengths, offsets and headers in the formats of 32 and 64 bits.
use Rattle.std.specs.Prelude.{ℕ, ◌+◌, nat_le, if◌then◌else◌}
use Rattle.dwarf_base_core.specs.declared.common.DwarfFileType.{DwarfFileType}
use Rattle.dwarf_base_core.specs.declared.common.DwarfFileType.TheVariants.{Main, Dwo}
use Rattle.dwarf_base_core.specs.declared.common.Format.{Format}
use Rattle.dwarf_base_core.specs.declared.common.Format.TheVariants.{Dwarf32, Dwarf64}

-- how many bytes a length or an offset has
abbrev pub word_size : Format → ℕ
word_size Dwarf32 = 4
word_size Dwarf64 = 8

-- how many bytes an initial length has: in the 64-bit format the mark 0xffffffff precedes the word
abbrev pub initial_length_size : Format → ℕ
initial_length_size Dwarf32 = 4
initial_length_size Dwarf64 = 12

-- how many bytes the header of a set of string offsets has: an initial length, a version and padding
abbrev pub str_offsets_header_size : Format → ℕ
str_offsets_header_size format = initial_length_size format + 2 + 2

-- where the string offsets begin if a unit has no base: after the header in a split object from version 5 on
abbrev pub default_str_offsets_base : ℕ → Format → DwarfFileType → ℕ
default_str_offsets_base version format Main = 0
default_str_offsets_base version format Dwo = if nat_le 5 version then str_offsets_header_size format else 0
