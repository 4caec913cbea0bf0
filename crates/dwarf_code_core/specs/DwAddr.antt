-- The values and names of the constants of `DwAddr`, and what it prints.
use Rattle.std.specs.Prelude.{ℕ, List, [], ◌∷◌, codes}
use Rattle.dwarf_const_core.specs.Names.{text_of}

-- each value and its name, by rising value; tools/constants writes the rows from the declarations in src/
unfoldable pub address_class_names : List (ℕ × List ℕ)
address_class_names =
    (0x00, codes "DW_ADDR_none") ∷
    []

-- what `{}` writes for a value
abbrev pub address_class_text : ℕ → List ℕ
address_class_text = text_of address_class_names (codes "DwAddr")
