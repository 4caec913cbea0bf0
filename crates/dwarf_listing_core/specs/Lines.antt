-- Single lines: a string, and bytes in hexadecimal.
use Rattle.std.specs.Prelude.{ℕ, ◌/◌, ◌%◌, false, List, [], ◌∷◌, ◌++◌, map, Result}
use Rattle.std.specs.Fmt.{digit_glyph}
use Rattle.std.specs.List.{join_with_byte}
use Rattle.dwarf_read_core.specs.declared.Error.{Error}
use Rattle.dwarf_read_core.specs.Input.{Input, section_of}
use Rattle.dwarf_read_core.specs.Strings.{StringAt}
use Rattle.dwarf_listing_core.specs.Listing.{ListsBy}

-- bytes and a line end
abbrev pub line : List ℕ → List ℕ
line bytes = bytes ++ 10 ∷ []

-- the two hexadecimal digits of a byte
abbrev pub hex_byte : ℕ → List ℕ
hex_byte byte = digit_glyph false (byte / 16) ∷ digit_glyph false (byte % 16) ∷ []

-- the two digits of each byte, with a space between bytes
abbrev pub hex_text : List ℕ → List ℕ
hex_text bytes = join_with_byte 32 (map hex_byte bytes)

-- the line of a string
abbrev pub string_line : Input → List ℕ
string_line string = line string.bytes

-- the line of the string at an offset of a section, or the section's error
abbrev pub ListsString : List ℕ → ℕ → Result (List ℕ) Error → Type 0
ListsString section offset answer = ListsBy string_line (StringAt (section_of section false) offset) answer
