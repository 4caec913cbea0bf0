-- The values and names of the constants of `DwAccess`, and what it prints.
use Rattle.std.specs.Prelude.{ℕ, List, [], ◌∷◌, codes}
use Rattle.dwarf_const_core.specs.Names.{text_of}

-- each value and its name, by rising value; tools/constants writes the rows from the declarations in src/
unfoldable pub accessibility_names : List (ℕ × List ℕ)
accessibility_names =
    (0x01, codes "DW_ACCESS_public") ∷
    (0x02, codes "DW_ACCESS_protected") ∷
    (0x03, codes "DW_ACCESS_private") ∷
    []

-- what `{}` writes for a value
abbrev pub accessibility_text : ℕ → List ℕ
accessibility_text = text_of accessibility_names (codes "DwAccess")
