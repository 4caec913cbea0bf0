use Rattle.dwarf_read_core.proofs.Common.{◌≡◌, length, arith, rules, nat_cmp, is_at}
use Rattle.dwarf_read_core.proofs.tables.OthersByCode.{has_by_place, added_by_place, places_put}
use Rattle.dwarf_read_core.proofs.read.abbrev.others.insert_by_place.Goals as goal

pub returns-in_default-clause-repeated : goal.returns-in_default-clause-repeated
returns-in_default-clause-repeated c = grind
    (arith, has_by_place (is_at (nat_cmp c.code-code.result)) c.args.items.now.items c.args.places.now.entries)

-- the new abbreviation's place is after all others
last : (c : goal.After-push_reserved) → c.len.result ≡ length c.args.items.now.items
last c = omega (arith, c.len.ensures, c.reserve.ensures.len, c.args.items.now.ok.0)

pub returns-clause-ok : goal.returns-clause-ok
returns-clause-ok c =
    let ds = c.args.items.now.items in
    let ps = c.args.places.now.entries in
    rw (c.push_reserved.ensures.items, c.reserve.ensures.items)
    (added_by_place ds ps _ c.args.abbreviation c.code-code.result c.len.result c.requires c.code-code.ensures (last c)
    (rw c.in-Vacant.is at c.in_ok-entry.ensures.found) (search rules))

pub returns-clause-kept : goal.returns-clause-kept
returns-clause-kept c = grind (arith, places_put, last)
