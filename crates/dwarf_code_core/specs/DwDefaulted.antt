-- The values and names of the constants of `DwDefaulted`, and what it prints.
use Rattle.std.specs.Prelude.{ℕ, List, [], ◌∷◌, codes}
use Rattle.dwarf_const_core.specs.Names.{text_of}

-- each value and its name, by rising value; tools/constants writes the rows from the declarations in src/
unfoldable pub defaulted_names : List (ℕ × List ℕ)
defaulted_names =
    (0x00, codes "DW_DEFAULTED_no") ∷
    (0x01, codes "DW_DEFAULTED_in_class") ∷
    (0x02, codes "DW_DEFAULTED_out_of_class") ∷
    []

-- what `{}` writes for a value
abbrev pub defaulted_text : ℕ → List ℕ
defaulted_text = text_of defaulted_names (codes "DwDefaulted")
