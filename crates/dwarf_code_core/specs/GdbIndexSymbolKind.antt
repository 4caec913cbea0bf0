-- The values and names of the constants of `GdbIndexSymbolKind`, and what it prints.
use Rattle.std.specs.Prelude.{ℕ, List, [], ◌∷◌, codes}
use Rattle.dwarf_const_core.specs.Names.{text_of}

-- each value and its name, by rising value; tools/constants writes the rows from the declarations in src/
unfoldable pub gdb_index_symbol_kind_names : List (ℕ × List ℕ)
gdb_index_symbol_kind_names =
    (0x00, codes "GDB_INDEX_SYMBOL_KIND_NONE") ∷
    (0x01, codes "GDB_INDEX_SYMBOL_KIND_TYPE") ∷
    (0x02, codes "GDB_INDEX_SYMBOL_KIND_VARIABLE") ∷
    (0x03, codes "GDB_INDEX_SYMBOL_KIND_FUNCTION") ∷
    (0x04, codes "GDB_INDEX_SYMBOL_KIND_OTHER") ∷
    (0x05, codes "GDB_INDEX_SYMBOL_KIND_UNUSED5") ∷
    (0x06, codes "GDB_INDEX_SYMBOL_KIND_UNUSED6") ∷
    (0x07, codes "GDB_INDEX_SYMBOL_KIND_UNUSED7") ∷
    []

-- what `{}` writes for a value
abbrev pub gdb_index_symbol_kind_text : ℕ → List ℕ
gdb_index_symbol_kind_text = text_of gdb_index_symbol_kind_names (codes "GdbIndexSymbolKind")
