-- The values and names of the constants of `DwUt`, and what it prints.
use Rattle.std.specs.Prelude.{ℕ, List, [], ◌∷◌, codes}
use Rattle.dwarf_const_core.specs.Names.{text_of}

-- each value and its name, by rising value; tools/constants writes the rows from the declarations in src/
unfoldable pub unit_type_names : List (ℕ × List ℕ)
unit_type_names =
    (0x01, codes "DW_UT_compile") ∷
    (0x02, codes "DW_UT_type") ∷
    (0x03, codes "DW_UT_partial") ∷
    (0x04, codes "DW_UT_skeleton") ∷
    (0x05, codes "DW_UT_split_compile") ∷
    (0x06, codes "DW_UT_split_type") ∷
    (0x80, codes "DW_UT_lo_user") ∷
    (0xff, codes "DW_UT_hi_user") ∷
    []

-- what `{}` writes for a value
abbrev pub unit_type_text : ℕ → List ℕ
unit_type_text = text_of unit_type_names (codes "DwUt")
