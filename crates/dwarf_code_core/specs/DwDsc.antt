-- The values and names of the constants of `DwDsc`, and what it prints.
use Rattle.std.specs.Prelude.{ℕ, List, [], ◌∷◌, codes}
use Rattle.dwarf_const_core.specs.Names.{text_of}

-- each value and its name, by rising value; tools/constants writes the rows from the declarations in src/
unfoldable pub discriminant_names : List (ℕ × List ℕ)
discriminant_names =
    (0x00, codes "DW_DSC_label") ∷
    (0x01, codes "DW_DSC_range") ∷
    []

-- what `{}` writes for a value
abbrev pub discriminant_text : ℕ → List ℕ
discriminant_text = text_of discriminant_names (codes "DwDsc")
