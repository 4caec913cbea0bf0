-- The values and names of the constants of `DwSect`, and what it prints.
use Rattle.std.specs.Prelude.{ℕ, List, [], ◌∷◌, codes}
use Rattle.dwarf_const_core.specs.Names.{text_of}

-- each value and its name, by rising value; tools/constants writes the rows from the declarations in src/
unfoldable pub section_names : List (ℕ × List ℕ)
section_names =
    (0x01, codes "DW_SECT_INFO") ∷
    (0x03, codes "DW_SECT_ABBREV") ∷
    (0x04, codes "DW_SECT_LINE") ∷
    (0x05, codes "DW_SECT_LOCLISTS") ∷
    (0x06, codes "DW_SECT_STR_OFFSETS") ∷
    (0x07, codes "DW_SECT_MACRO") ∷
    (0x08, codes "DW_SECT_RNGLISTS") ∷
    []

-- what `{}` writes for a value
abbrev pub section_text : ℕ → List ℕ
section_text = text_of section_names (codes "DwSect")
