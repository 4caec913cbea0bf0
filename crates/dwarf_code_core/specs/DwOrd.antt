-- The values and names of the constants of `DwOrd`, and what it prints.
use Rattle.std.specs.Prelude.{ℕ, List, [], ◌∷◌, codes}
use Rattle.dwarf_const_core.specs.Names.{text_of}

-- each value and its name, by rising value; tools/constants writes the rows from the declarations in src/
unfoldable pub array_ordering_names : List (ℕ × List ℕ)
array_ordering_names =
    (0x00, codes "DW_ORD_row_major") ∷
    (0x01, codes "DW_ORD_col_major") ∷
    []

-- what `{}` writes for a value
abbrev pub array_ordering_text : ℕ → List ℕ
array_ordering_text = text_of array_ordering_names (codes "DwOrd")
