-- The values and names of the constants of `DwVis`, and what it prints.
use Rattle.std.specs.Prelude.{ℕ, List, [], ◌∷◌, codes}
use Rattle.dwarf_const_core.specs.Names.{text_of}

-- each value and its name, by rising value; tools/constants writes the rows from the declarations in src/
unfoldable pub visibility_names : List (ℕ × List ℕ)
visibility_names =
    (0x01, codes "DW_VIS_local") ∷
    (0x02, codes "DW_VIS_exported") ∷
    (0x03, codes "DW_VIS_qualified") ∷
    []

-- what `{}` writes for a value
abbrev pub visibility_text : ℕ → List ℕ
visibility_text = text_of visibility_names (codes "DwVis")
