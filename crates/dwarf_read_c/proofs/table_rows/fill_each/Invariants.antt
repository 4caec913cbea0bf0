use Rattle.dwarf_read_c.proofs.Common.{◌≡◌, map, take, attribute_of}
use Rattle.dwarf_read_c.proofs.table_rows.fill_each.Given as goal

-- the attributes so far are at the front of the places
abbrev pub invariant-loop-i : goal.invariant-loop-i
invariant-loop-i l = take l.i l.places ≡ map attribute_of (take l.i l.attributes)
