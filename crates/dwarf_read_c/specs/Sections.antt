-- The bytes of a section, as C gives them.
use Rattle.std.specs.Prelude.{ℕ, ◌+◌, Bool, take, drop, if◌then◌else◌}
use Rattle.dwarf_read_core.specs.Input.{Input}
pub use Rattle.dwarf_read_core.specs.Input.{section_of}

-- a part of a section: the given number of bytes from an offset on
abbrev pub part_of : Input → ℕ → ℕ → Input
part_of section offset len = record section {
  bytes = take len (drop offset section.bytes);
  position = section.position + offset;
}

-- how many bytes a string offset has
abbrev pub offset_size : Bool → ℕ
offset_size is_64 = if is_64 then 8 else 4
