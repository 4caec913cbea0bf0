-- The tags of codes in a table.
use Rattle.std.specs.Prelude.{ℕ, Option, None, Some}
use Rattle.std.specs.FinMap.{get}
use Rattle.dwarf_read_core.specs.Grammar.{Declaration, Table}

-- the tag of a declaration, or 0 if there is none
abbrev pub tag_of : Option Declaration → ℕ
tag_of None = 0
tag_of (Some d) = d.tag

-- the tag of a code's declaration in a table, or 0 if it has none
abbrev pub tag_in : Table → ℕ → ℕ
tag_in t code = tag_of (get t.by_code code)
