-- The values and names of the constants of `DwLnct`, and what it prints.
use Rattle.std.specs.Prelude.{ℕ, List, [], ◌∷◌, codes}
use Rattle.dwarf_const_core.specs.Names.{text_of}

-- each value and its name, by rising value; tools/constants writes the rows from the declarations in src/
unfoldable pub line_content_names : List (ℕ × List ℕ)
line_content_names =
    (0x01, codes "DW_LNCT_path") ∷
    (0x02, codes "DW_LNCT_directory_index") ∷
    (0x03, codes "DW_LNCT_timestamp") ∷
    (0x04, codes "DW_LNCT_size") ∷
    (0x05, codes "DW_LNCT_MD5") ∷
    (0x2000, codes "DW_LNCT_lo_user") ∷
    (0x2001, codes "DW_LNCT_LLVM_source") ∷
    (0x3fff, codes "DW_LNCT_hi_user") ∷
    []

-- what `{}` writes for a value
abbrev pub line_content_text : ℕ → List ℕ
line_content_text = text_of line_content_names (codes "DwLnct")
