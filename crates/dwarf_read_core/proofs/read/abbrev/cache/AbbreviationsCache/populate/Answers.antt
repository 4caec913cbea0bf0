use Rattle.dwarf_read_core.proofs.Common.{map, refl, rules, least_count, debug_abbrev_reader}
use Rattle.dwarf_read_core.proofs.cache.FaithfulToSection.{faithful_of_kept}
use Rattle.dwarf_read_core.proofs.cache.FirstItem.{first_item-of_items}
use Rattle.dwarf_read_core.proofs.read.abbrev.cache.AbbreviationsCache.populate.Goals as goal

pub returns-clause-ok : goal.returns-clause-ok
returns-clause-ok g c = (
  map (λ offset. g.R.Offset.ReaderOffset.value offset.0) c.in_ok-offsets.offsets.items,
  record { items = c.in_ok-offsets.offsets.items; given = c.in_ok-offsets.ensures.ok; numbers = refl },
  search (rules, c.in_ok-cache.ensures.ok),
)

pub returns-clause-faithful : goal.returns-clause-faithful
returns-clause-faithful g c =
    let faithful =
    faithful_of_kept (least_count c.args.strategy) (g.R.Reader.view (debug_abbrev_reader c.args.debug_abbrev.now))
    (map (λ offset. g.R.Offset.ReaderOffset.value offset.0) c.in_ok-offsets.offsets.items) c.in_ok-cache.cache
    c.in_ok-cache.ensures.ok in
    search (rules, faithful)

pub returns-in_err-cache-clause-some : goal.returns-in_err-cache-clause-some
returns-in_err-cache-clause-some g c =
    first_item-of_items g.I.Iterator.next_gives c.args.units c.in_ok-offsets.offsets.items _ _ _
    c.in_err-cache.ensures.some c.in_ok-offsets.ensures.ok.given
