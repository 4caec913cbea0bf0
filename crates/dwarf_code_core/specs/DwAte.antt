-- The values and names of the constants of `DwAte`, and what it prints.
use Rattle.std.specs.Prelude.{ℕ, List, [], ◌∷◌, codes}
use Rattle.dwarf_const_core.specs.Names.{text_of}

-- each value and its name, by rising value; tools/constants writes the rows from the declarations in src/
unfoldable pub base_type_encoding_names : List (ℕ × List ℕ)
base_type_encoding_names =
    (0x01, codes "DW_ATE_address") ∷
    (0x02, codes "DW_ATE_boolean") ∷
    (0x03, codes "DW_ATE_complex_float") ∷
    (0x04, codes "DW_ATE_float") ∷
    (0x05, codes "DW_ATE_signed") ∷
    (0x06, codes "DW_ATE_signed_char") ∷
    (0x07, codes "DW_ATE_unsigned") ∷
    (0x08, codes "DW_ATE_unsigned_char") ∷
    (0x09, codes "DW_ATE_imaginary_float") ∷
    (0x0a, codes "DW_ATE_packed_decimal") ∷
    (0x0b, codes "DW_ATE_numeric_string") ∷
    (0x0c, codes "DW_ATE_edited") ∷
    (0x0d, codes "DW_ATE_signed_fixed") ∷
    (0x0e, codes "DW_ATE_unsigned_fixed") ∷
    (0x0f, codes "DW_ATE_decimal_float") ∷
    (0x10, codes "DW_ATE_UTF") ∷
    (0x11, codes "DW_ATE_UCS") ∷
    (0x12, codes "DW_ATE_ASCII") ∷
    (0x80, codes "DW_ATE_lo_user") ∷
    (0xff, codes "DW_ATE_hi_user") ∷
    []

-- what `{}` writes for a value
abbrev pub base_type_encoding_text : ℕ → List ℕ
base_type_encoding_text = text_of base_type_encoding_names (codes "DwAte")
