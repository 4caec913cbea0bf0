-- The values and names of the constants of `DwEnd`, and what it prints.
use Rattle.std.specs.Prelude.{ℕ, List, [], ◌∷◌, codes}
use Rattle.dwarf_const_core.specs.Names.{text_of}

-- each value and its name, by rising value; tools/constants writes the rows from the declarations in src/
unfoldable pub endianity_names : List (ℕ × List ℕ)
endianity_names =
    (0x00, codes "DW_END_default") ∷
    (0x01, codes "DW_END_big") ∷
    (0x02, codes "DW_END_little") ∷
    (0x40, codes "DW_END_lo_user") ∷
    (0xff, codes "DW_END_hi_user") ∷
    []

-- what `{}` writes for a value
abbrev pub endianity_text : ℕ → List ℕ
endianity_text = text_of endianity_names (codes "DwEnd")
