-- The values and names of the constants of `DwSectV2`, and what it prints.
use Rattle.std.specs.Prelude.{ℕ, List, [], ◌∷◌, codes}
use Rattle.dwarf_const_core.specs.Names.{text_of}

-- each value and its name, by rising value; tools/constants writes the rows from the declarations in src/
unfoldable pub section_v2_names : List (ℕ × List ℕ)
section_v2_names =
    (0x01, codes "DW_SECT_V2_INFO") ∷
    (0x02, codes "DW_SECT_V2_TYPES") ∷
    (0x03, codes "DW_SECT_V2_ABBREV") ∷
    (0x04, codes "DW_SECT_V2_LINE") ∷
    (0x05, codes "DW_SECT_V2_LOC") ∷
    (0x06, codes "DW_SECT_V2_STR_OFFSETS") ∷
    (0x07, codes "DW_SECT_V2_MACINFO") ∷
    (0x08, codes "DW_SECT_V2_MACRO") ∷
    []

-- what `{}` writes for a value
abbrev pub section_v2_text : ℕ → List ℕ
section_v2_text = text_of section_v2_names (codes "DwSectV2")
