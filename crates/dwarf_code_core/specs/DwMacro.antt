-- The values and names of the constants of `DwMacro`, and what it prints.
use Rattle.std.specs.Prelude.{ℕ, List, [], ◌∷◌, codes}
use Rattle.dwarf_const_core.specs.Names.{text_of}

-- each value and its name, by rising value; tools/constants writes the rows from the declarations in src/
unfoldable pub macro_entry_names : List (ℕ × List ℕ)
macro_entry_names =
    (0x01, codes "DW_MACRO_define") ∷
    (0x02, codes "DW_MACRO_undef") ∷
    (0x03, codes "DW_MACRO_start_file") ∷
    (0x04, codes "DW_MACRO_end_file") ∷
    (0x05, codes "DW_MACRO_define_strp") ∷
    (0x06, codes "DW_MACRO_undef_strp") ∷
    (0x07, codes "DW_MACRO_import") ∷
    (0x08, codes "DW_MACRO_define_sup") ∷
    (0x09, codes "DW_MACRO_undef_sup") ∷
    (0x0a, codes "DW_MACRO_import_sup") ∷
    (0x0b, codes "DW_MACRO_define_strx") ∷
    (0x0c, codes "DW_MACRO_undef_strx") ∷
    (0xe0, codes "DW_MACRO_lo_user") ∷
    (0xff, codes "DW_MACRO_hi_user") ∷
    []

-- what `{}` writes for a value
abbrev pub macro_entry_text : ℕ → List ℕ
macro_entry_text = text_of macro_entry_names (codes "DwMacro")
