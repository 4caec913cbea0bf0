-- The values and names of the constants of `DwEhPe`, and what it prints.
use Rattle.std.specs.Prelude.{ℕ, ◌≡◌, ◌%◌, ◌⊎◌, IsTrue, List, [], ◌∷◌, bit_and, codes}
use Rattle.dwarf_const_core.specs.Names.{is_among, text_of}

-- each value and its name, by rising value; tools/constants writes the rows from the declarations in src/
unfoldable pub pointer_encoding_names : List (ℕ × List ℕ)
pointer_encoding_names =
    (0x00, codes "DW_EH_PE_absptr") ∷
    (0x01, codes "DW_EH_PE_uleb128") ∷
    (0x02, codes "DW_EH_PE_udata2") ∷
    (0x03, codes "DW_EH_PE_udata4") ∷
    (0x04, codes "DW_EH_PE_udata8") ∷
    (0x09, codes "DW_EH_PE_sleb128") ∷
    (0x0a, codes "DW_EH_PE_sdata2") ∷
    (0x0b, codes "DW_EH_PE_sdata4") ∷
    (0x0c, codes "DW_EH_PE_sdata8") ∷
    (0x10, codes "DW_EH_PE_pcrel") ∷
    (0x20, codes "DW_EH_PE_textrel") ∷
    (0x30, codes "DW_EH_PE_datarel") ∷
    (0x40, codes "DW_EH_PE_funcrel") ∷
    (0x50, codes "DW_EH_PE_aligned") ∷
    (0x80, codes "DW_EH_PE_indirect") ∷
    (0xff, codes "DW_EH_PE_omit") ∷
    []

-- what `{}` writes for a value
abbrev pub pointer_encoding_text : ℕ → List ℕ
pointer_encoding_text = text_of pointer_encoding_names (codes "DwEhPe")

-- the formats of the number, in the low four bits
abbrev pub formats : List ℕ
formats = 0x00 ∷ 0x01 ∷ 0x02 ∷ 0x03 ∷ 0x04 ∷ 0x09 ∷ 0x0a ∷ 0x0b ∷ 0x0c ∷ []

-- what the number may be relative to, in bits 4 to 6
abbrev pub applications : List ℕ
applications = 0x00 ∷ 0x10 ∷ 0x20 ∷ 0x30 ∷ 0x40 ∷ 0x50 ∷ []

-- there is no pointer, or the format and the application are known ones; bit 7 is free
abbrev pub IsValidEncoding : ℕ → Type 0
IsValidEncoding n = (n ≡ 0xff) ⊎ (IsTrue (is_among formats (n % 16)) × IsTrue (is_among applications (bit_and n 0x70)))
