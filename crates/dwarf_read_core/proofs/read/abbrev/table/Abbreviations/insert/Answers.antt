use Rattle.dwarf_read_core.proofs.Common.{◌≡◌, ◌-◌, None, arith, nat_cmp, is_at, lookup}
use Rattle.dwarf_read_core.proofs.tables.VectorAndMap.{has_in_vec, none_at, table_pushed, lacks_next, keyed_pushed}
use Rattle.dwarf_read_core.proofs.read.abbrev.table.Abbreviations.insert.Goals as goal

pub returns-then-index-len-clause-repeated : goal.returns-then-index-len-clause-repeated
returns-then-index-len-clause-repeated c =
    let code = c.args.abbreviation.code in
    grind (arith, has_in_vec c.self.inside.vec.items c.self.inside.others code (code - 1))

-- the next code of the vector isn't in the map
absent : (c : goal.In_ok-push) → lookup (is_at (nat_cmp c.args.abbreviation.code)) c.self.inside.others ≡ None
absent c = grind (arith, none_at, goal.else-not-is_empty-via-else-not-is_empty)

pub invariant_of-self-then-index-len-2 : goal.invariant_of-self-then-index-len-2
invariant_of-self-then-index-len-2 c = grind (arith, keyed_pushed, absent)

pub returns-then-index-len-2-clause-ok : goal.returns-then-index-len-2-clause-ok
returns-then-index-len-2-clause-ok c = grind (arith, lacks_next, absent, table_pushed)
