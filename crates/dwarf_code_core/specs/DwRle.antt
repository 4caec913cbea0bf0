-- The values and names of the constants of `DwRle`, and what it prints.
use Rattle.std.specs.Prelude.{ℕ, List, [], ◌∷◌, codes}
use Rattle.dwarf_const_core.specs.Names.{text_of}

-- each value and its name, by rising value; tools/constants writes the rows from the declarations in src/
unfoldable pub range_list_entry_names : List (ℕ × List ℕ)
range_list_entry_names =
    (0x00, codes "DW_RLE_end_of_list") ∷
    (0x01, codes "DW_RLE_base_addressx") ∷
    (0x02, codes "DW_RLE_startx_endx") ∷
    (0x03, codes "DW_RLE_startx_length") ∷
    (0x04, codes "DW_RLE_offset_pair") ∷
    (0x05, codes "DW_RLE_base_address") ∷
    (0x06, codes "DW_RLE_start_end") ∷
    (0x07, codes "DW_RLE_start_length") ∷
    []

-- what `{}` writes for a value
abbrev pub range_list_entry_text : ℕ → List ℕ
range_list_entry_text = text_of range_list_entry_names (codes "DwRle")
