-- The values and names of the constants of `DwCc`, and what it prints.
use Rattle.std.specs.Prelude.{ℕ, List, [], ◌∷◌, codes}
use Rattle.dwarf_const_core.specs.Names.{text_of}

-- each value and its name, by rising value; tools/constants writes the rows from the declarations in src/
unfoldable pub calling_convention_names : List (ℕ × List ℕ)
calling_convention_names =
    (0x01, codes "DW_CC_normal") ∷
    (0x02, codes "DW_CC_program") ∷
    (0x03, codes "DW_CC_nocall") ∷
    (0x04, codes "DW_CC_pass_by_reference") ∷
    (0x05, codes "DW_CC_pass_by_value") ∷
    (0x40, codes "DW_CC_lo_user") ∷
    (0xff, codes "DW_CC_hi_user") ∷
    []

-- what `{}` writes for a value
abbrev pub calling_convention_text : ℕ → List ℕ
calling_convention_text = text_of calling_convention_names (codes "DwCc")
