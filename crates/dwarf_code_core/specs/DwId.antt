-- The values and names of the constants of `DwId`, and what it prints.
use Rattle.std.specs.Prelude.{ℕ, List, [], ◌∷◌, codes}
use Rattle.dwarf_const_core.specs.Names.{text_of}

-- each value and its name, by rising value; tools/constants writes the rows from the declarations in src/
unfoldable pub identifier_case_names : List (ℕ × List ℕ)
identifier_case_names =
    (0x00, codes "DW_ID_case_sensitive") ∷
    (0x01, codes "DW_ID_up_case") ∷
    (0x02, codes "DW_ID_down_case") ∷
    (0x03, codes "DW_ID_case_insensitive") ∷
    []

-- what `{}` writes for a value
abbrev pub identifier_case_text : ℕ → List ℕ
identifier_case_text = text_of identifier_case_names (codes "DwId")
