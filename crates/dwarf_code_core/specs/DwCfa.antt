-- The values and names of the constants of `DwCfa`, and what it prints.
use Rattle.std.specs.Prelude.{ℕ, List, [], ◌∷◌, codes}
use Rattle.dwarf_const_core.specs.Names.{text_of}

-- each value and its name, by rising value; tools/constants writes the rows from the declarations in src/
unfoldable pub call_frame_names : List (ℕ × List ℕ)
call_frame_names =
    (0x00, codes "DW_CFA_nop") ∷
    (0x01, codes "DW_CFA_set_loc") ∷
    (0x02, codes "DW_CFA_advance_loc1") ∷
    (0x03, codes "DW_CFA_advance_loc2") ∷
    (0x04, codes "DW_CFA_advance_loc4") ∷
    (0x05, codes "DW_CFA_offset_extended") ∷
    (0x06, codes "DW_CFA_restore_extended") ∷
    (0x07, codes "DW_CFA_undefined") ∷
    (0x08, codes "DW_CFA_same_value") ∷
    (0x09, codes "DW_CFA_register") ∷
    (0x0a, codes "DW_CFA_remember_state") ∷
    (0x0b, codes "DW_CFA_restore_state") ∷
    (0x0c, codes "DW_CFA_def_cfa") ∷
    (0x0d, codes "DW_CFA_def_cfa_register") ∷
    (0x0e, codes "DW_CFA_def_cfa_offset") ∷
    (0x0f, codes "DW_CFA_def_cfa_expression") ∷
    (0x10, codes "DW_CFA_expression") ∷
    (0x11, codes "DW_CFA_offset_extended_sf") ∷
    (0x12, codes "DW_CFA_def_cfa_sf") ∷
    (0x13, codes "DW_CFA_def_cfa_offset_sf") ∷
    (0x14, codes "DW_CFA_val_offset") ∷
    (0x15, codes "DW_CFA_val_offset_sf") ∷
    (0x16, codes "DW_CFA_val_expression") ∷
    (0x1c, codes "DW_CFA_lo_user") ∷
    (0x1d, codes "DW_CFA_MIPS_advance_loc8") ∷
    (0x2d, codes "DW_CFA_GNU_window_save") ∷
    (0x2e, codes "DW_CFA_GNU_args_size") ∷
    (0x2f, codes "DW_CFA_GNU_negative_offset_extended") ∷
    (0x3f, codes "DW_CFA_hi_user") ∷
    (0x40, codes "DW_CFA_advance_loc") ∷
    (0x80, codes "DW_CFA_offset") ∷
    (0xc0, codes "DW_CFA_restore") ∷
    []

-- what `{}` writes for a value
abbrev pub call_frame_text : ℕ → List ℕ
call_frame_text = text_of call_frame_names (codes "DwCfa")
