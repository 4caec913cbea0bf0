-- The values and names of the constants of `DwInl`, and what it prints.
use Rattle.std.specs.Prelude.{ℕ, List, [], ◌∷◌, codes}
use Rattle.dwarf_const_core.specs.Names.{text_of}

-- each value and its name, by rising value; tools/constants writes the rows from the declarations in src/
unfoldable pub inlining_names : List (ℕ × List ℕ)
inlining_names =
    (0x00, codes "DW_INL_not_inlined") ∷
    (0x01, codes "DW_INL_inlined") ∷
    (0x02, codes "DW_INL_declared_not_inlined") ∷
    (0x03, codes "DW_INL_declared_inlined") ∷
    []

-- what `{}` writes for a value
abbrev pub inlining_text : ℕ → List ℕ
inlining_text = text_of inlining_names (codes "DwInl")
