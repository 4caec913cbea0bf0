-- The values and names of the constants of `DwMacinfo`, and what it prints.
use Rattle.std.specs.Prelude.{ℕ, List, [], ◌∷◌, codes}
use Rattle.dwarf_const_core.specs.Names.{text_of}

-- each value and its name, by rising value; tools/constants writes the rows from the declarations in src/
unfoldable pub macinfo_names : List (ℕ × List ℕ)
macinfo_names =
    (0x01, codes "DW_MACINFO_define") ∷
    (0x02, codes "DW_MACINFO_undef") ∷
    (0x03, codes "DW_MACINFO_start_file") ∷
    (0x04, codes "DW_MACINFO_end_file") ∷
    (0xff, codes "DW_MACINFO_vendor_ext") ∷
    []

-- what `{}` writes for a value
abbrev pub macinfo_text : ℕ → List ℕ
macinfo_text = text_of macinfo_names (codes "DwMacinfo")
