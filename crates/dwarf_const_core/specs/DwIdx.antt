-- The values and names of the constants of `DwIdx`, and what it prints.
use Rattle.std.specs.Prelude.{ℕ, List, [], ◌∷◌, codes}
use Rattle.dwarf_const_core.specs.Names.{text_of}

-- each value and its name, by rising value; tools/constants writes the rows from the declarations in src/
unfoldable pub index_attribute_names : List (ℕ × List ℕ)
index_attribute_names =
    (0x01, codes "DW_IDX_compile_unit") ∷
    (0x02, codes "DW_IDX_type_unit") ∷
    (0x03, codes "DW_IDX_die_offset") ∷
    (0x04, codes "DW_IDX_parent") ∷
    (0x05, codes "DW_IDX_type_hash") ∷
    (0x2000, codes "DW_IDX_lo_user") ∷
    (0x3fff, codes "DW_IDX_hi_user") ∷
    []

-- what `{}` writes for a value
abbrev pub index_attribute_text : ℕ → List ℕ
index_attribute_text = text_of index_attribute_names (codes "DwIdx")
