use Rattle.dwarf_read_core.proofs.Common.{nat_cmp, is_at, lookup-map_values, arith}
use Rattle.dwarf_read_core.specs.Others.{at_place}
use Rattle.dwarf_read_core.proofs.tables.OthersByCode.{place_within, copied_at}
use Rattle.dwarf_read_core.proofs.read.abbrev.others.Others.get.Goals as goal

pub returns-in_err-place : goal.returns-in_err-place
returns-in_err-place c = grind (
  arith,
  lookup-map_values (at_place c.self.inside.items.items) (is_at (nat_cmp c.args.code))
      c.self.inside.places.entries,
)

pub returns : goal.returns
returns c =
    let ps = c.self.inside.places.entries in
    let looked_up = lookup-map_values (at_place c.self.inside.items.items) (is_at (nat_cmp c.args.code)) ps in
    grind (arith, copied_at, place_within, looked_up)
