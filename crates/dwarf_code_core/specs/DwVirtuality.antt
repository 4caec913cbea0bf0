-- The values and names of the constants of `DwVirtuality`, and what it prints.
use Rattle.std.specs.Prelude.{ℕ, List, [], ◌∷◌, codes}
use Rattle.dwarf_const_core.specs.Names.{text_of}

-- each value and its name, by rising value; tools/constants writes the rows from the declarations in src/
unfoldable pub virtuality_names : List (ℕ × List ℕ)
virtuality_names =
    (0x00, codes "DW_VIRTUALITY_none") ∷
    (0x01, codes "DW_VIRTUALITY_virtual") ∷
    (0x02, codes "DW_VIRTUALITY_pure_virtual") ∷
    []

-- what `{}` writes for a value
abbrev pub virtuality_text : ℕ → List ℕ
virtuality_text = text_of virtuality_names (codes "DwVirtuality")
