use Rattle.dwarf_listing_core.proofs.Common.{refl, err_from_is_err_and}
use Rattle.dwarf_listing_core.proofs.listing.abbreviations_strict.Goals as goal

pub returns-in_err-table : goal.returns-in_err-table
returns-in_err-table c =
    let p = err_from_is_err_and c.from_residual.result c.from_residual.ensures.1 in
    rw (p.1, p.2) (rw c.new-debug_abbrev.ensures.view at c.in_err-table.ensures.answer)

pub returns : goal.returns
returns c = (c.in_ok-table.table, rw c.new-debug_abbrev.ensures.view at c.in_ok-table.ensures.answer, refl)
