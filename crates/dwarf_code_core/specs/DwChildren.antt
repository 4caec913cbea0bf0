-- The values and names of the constants of `DwChildren`, and what it prints.
use Rattle.std.specs.Prelude.{ℕ, List, [], ◌∷◌, codes}
use Rattle.dwarf_const_core.specs.Names.{text_of}

-- each value and its name, by rising value; tools/constants writes the rows from the declarations in src/
unfoldable pub children_names : List (ℕ × List ℕ)
children_names =
    (0x00, codes "DW_CHILDREN_no") ∷
    (0x01, codes "DW_CHILDREN_yes") ∷
    []

-- what `{}` writes for a value
abbrev pub children_text : ℕ → List ℕ
children_text = text_of children_names (codes "DwChildren")
