-- The values and names of the constants of `DwLne`, and what it prints.
use Rattle.std.specs.Prelude.{ℕ, List, [], ◌∷◌, codes}
use Rattle.dwarf_const_core.specs.Names.{text_of}

-- each value and its name, by rising value; tools/constants writes the rows from the declarations in src/
unfoldable pub line_extended_names : List (ℕ × List ℕ)
line_extended_names =
    (0x01, codes "DW_LNE_end_sequence") ∷
    (0x02, codes "DW_LNE_set_address") ∷
    (0x03, codes "DW_LNE_define_file") ∷
    (0x04, codes "DW_LNE_set_discriminator") ∷
    (0x80, codes "DW_LNE_lo_user") ∷
    (0xff, codes "DW_LNE_hi_user") ∷
    []

-- what `{}` writes for a value
abbrev pub line_extended_text : ℕ → List ℕ
line_extended_text = text_of line_extended_names (codes "DwLne")
