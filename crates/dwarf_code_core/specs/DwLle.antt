-- The values and names of the constants of `DwLle`, and what it prints.
use Rattle.std.specs.Prelude.{ℕ, List, [], ◌∷◌, codes}
use Rattle.dwarf_const_core.specs.Names.{text_of}

-- each value and its name, by rising value; tools/constants writes the rows from the declarations in src/
unfoldable pub location_list_entry_names : List (ℕ × List ℕ)
location_list_entry_names =
    (0x00, codes "DW_LLE_end_of_list") ∷
    (0x01, codes "DW_LLE_base_addressx") ∷
    (0x02, codes "DW_LLE_startx_endx") ∷
    (0x03, codes "DW_LLE_startx_length") ∷
    (0x04, codes "DW_LLE_offset_pair") ∷
    (0x05, codes "DW_LLE_default_location") ∷
    (0x06, codes "DW_LLE_base_address") ∷
    (0x07, codes "DW_LLE_start_end") ∷
    (0x08, codes "DW_LLE_start_length") ∷
    (0x09, codes "DW_LLE_GNU_view_pair") ∷
    []

-- what `{}` writes for a value
abbrev pub location_list_entry_text : ℕ → List ℕ
location_list_entry_text = text_of location_list_entry_names (codes "DwLle")
