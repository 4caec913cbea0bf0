-- The values and names of the constants of `DwDs`, and what it prints.
use Rattle.std.specs.Prelude.{ℕ, List, [], ◌∷◌, codes}
use Rattle.dwarf_const_core.specs.Names.{text_of}

-- each value and its name, by rising value; tools/constants writes the rows from the declarations in src/
unfoldable pub decimal_sign_names : List (ℕ × List ℕ)
decimal_sign_names =
    (0x01, codes "DW_DS_unsigned") ∷
    (0x02, codes "DW_DS_leading_overpunch") ∷
    (0x03, codes "DW_DS_trailing_overpunch") ∷
    (0x04, codes "DW_DS_leading_separate") ∷
    (0x05, codes "DW_DS_trailing_separate") ∷
    []

-- what `{}` writes for a value
abbrev pub decimal_sign_text : ℕ → List ℕ
decimal_sign_text = text_of decimal_sign_names (codes "DwDs")
