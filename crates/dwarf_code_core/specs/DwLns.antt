-- The values and names of the constants of `DwLns`, and what it prints.
use Rattle.std.specs.Prelude.{ℕ, List, [], ◌∷◌, codes}
use Rattle.dwarf_const_core.specs.Names.{text_of}

-- each value and its name, by rising value; tools/constants writes the rows from the declarations in src/
unfoldable pub line_standard_names : List (ℕ × List ℕ)
line_standard_names =
    (0x01, codes "DW_LNS_copy") ∷
    (0x02, codes "DW_LNS_advance_pc") ∷
    (0x03, codes "DW_LNS_advance_line") ∷
    (0x04, codes "DW_LNS_set_file") ∷
    (0x05, codes "DW_LNS_set_column") ∷
    (0x06, codes "DW_LNS_negate_stmt") ∷
    (0x07, codes "DW_LNS_set_basic_block") ∷
    (0x08, codes "DW_LNS_const_add_pc") ∷
    (0x09, codes "DW_LNS_fixed_advance_pc") ∷
    (0x0a, codes "DW_LNS_set_prologue_end") ∷
    (0x0b, codes "DW_LNS_set_epilogue_begin") ∷
    (0x0c, codes "DW_LNS_set_isa") ∷
    []

-- what `{}` writes for a value
abbrev pub line_standard_text : ℕ → List ℕ
line_standard_text = text_of line_standard_names (codes "DwLns")
