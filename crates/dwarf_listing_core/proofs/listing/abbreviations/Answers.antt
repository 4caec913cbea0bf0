use Rattle.dwarf_listing_core.proofs.Common.{refl}
use Rattle.dwarf_listing_core.proofs.listing.abbreviations.Goals as goal

pub returns : goal.returns
returns c = (c.in_ok-table.table, rw c.new-debug_abbrev.ensures.view at c.in_ok-table.ensures.answer, refl)
