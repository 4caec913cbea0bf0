-- The values and names of the constants of `DwForm`, and what it prints.
use Rattle.std.specs.Prelude.{ℕ, List, [], ◌∷◌, codes}
use Rattle.dwarf_const_core.specs.Names.{text_of}

-- each value and its name, by rising value; tools/constants writes the rows from the declarations in src/
unfoldable pub form_names : List (ℕ × List ℕ)
form_names =
    (0x00, codes "DW_FORM_null") ∷
    (0x01, codes "DW_FORM_addr") ∷
    (0x02, codes "DW_FORM_ref") ∷
    (0x03, codes "DW_FORM_block2") ∷
    (0x04, codes "DW_FORM_block4") ∷
    (0x05, codes "DW_FORM_data2") ∷
    (0x06, codes "DW_FORM_data4") ∷
    (0x07, codes "DW_FORM_data8") ∷
    (0x08, codes "DW_FORM_string") ∷
    (0x09, codes "DW_FORM_block") ∷
    (0x0a, codes "DW_FORM_block1") ∷
    (0x0b, codes "DW_FORM_data1") ∷
    (0x0c, codes "DW_FORM_flag") ∷
    (0x0d, codes "DW_FORM_sdata") ∷
    (0x0e, codes "DW_FORM_strp") ∷
    (0x0f, codes "DW_FORM_udata") ∷
    (0x10, codes "DW_FORM_ref_addr") ∷
    (0x11, codes "DW_FORM_ref1") ∷
    (0x12, codes "DW_FORM_ref2") ∷
    (0x13, codes "DW_FORM_ref4") ∷
    (0x14, codes "DW_FORM_ref8") ∷
    (0x15, codes "DW_FORM_ref_udata") ∷
    (0x16, codes "DW_FORM_indirect") ∷
    (0x17, codes "DW_FORM_sec_offset") ∷
    (0x18, codes "DW_FORM_exprloc") ∷
    (0x19, codes "DW_FORM_flag_present") ∷
    (0x1a, codes "DW_FORM_strx") ∷
    (0x1b, codes "DW_FORM_addrx") ∷
    (0x1c, codes "DW_FORM_ref_sup4") ∷
    (0x1d, codes "DW_FORM_strp_sup") ∷
    (0x1e, codes "DW_FORM_data16") ∷
    (0x1f, codes "DW_FORM_line_strp") ∷
    (0x20, codes "DW_FORM_ref_sig8") ∷
    (0x21, codes "DW_FORM_implicit_const") ∷
    (0x22, codes "DW_FORM_loclistx") ∷
    (0x23, codes "DW_FORM_rnglistx") ∷
    (0x24, codes "DW_FORM_ref_sup8") ∷
    (0x25, codes "DW_FORM_strx1") ∷
    (0x26, codes "DW_FORM_strx2") ∷
    (0x27, codes "DW_FORM_strx3") ∷
    (0x28, codes "DW_FORM_strx4") ∷
    (0x29, codes "DW_FORM_addrx1") ∷
    (0x2a, codes "DW_FORM_addrx2") ∷
    (0x2b, codes "DW_FORM_addrx3") ∷
    (0x2c, codes "DW_FORM_addrx4") ∷
    (0x1f01, codes "DW_FORM_GNU_addr_index") ∷
    (0x1f02, codes "DW_FORM_GNU_str_index") ∷
    (0x1f20, codes "DW_FORM_GNU_ref_alt") ∷
    (0x1f21, codes "DW_FORM_GNU_strp_alt") ∷
    []

-- what `{}` writes for a value
abbrev pub form_text : ℕ → List ℕ
form_text = text_of form_names (codes "DwForm")
