use Rattle.std.proofs.Common.{rules}
use Rattle.std.proofs.lemmas.List.{length-map}
use Rattle.dwarf_read_c.specs.Laid.{AreKept, ArePlaced, declaration_from, laid_out}
use Rattle.dwarf_read_c.proofs.Common.{length, sym, arith}
use Rattle.dwarf_read_c.proofs.PlacedRows.{kept-placed, placed-has, placed-lacks, placed-more}
use Rattle.dwarf_read_c.proofs.table_rows.extend_by_place.Goals as goal
use Rattle.dwarf_read_c.proofs.table_rows.extend_by_place.Goals.{After-entry, then-is_empty+in_ok-places, else-is_empty}

-- each code has its place
placed : (c : After-entry)
    → ArePlaced (laid_out c.args.all.now.items c.args.rows.now) c.if-is_empty.places.entries
placed c = elim c.if-is_empty.branch [
  | then-is_empty+in_ok-places w ↦
      let built = w.in_ok-places.ensures c.args.all.now.items in
      grind (arith, w.places-is, built)
  | else-is_empty w ↦ grind (arith, w.places-is, c.requires.placed, c.is_empty.ensures)
]

-- and can be kept
kept : (c : After-entry) → AreKept c.args.all.now.items c.args.rows.now c.if-is_empty.places.entries
kept c = kept-placed _ _ _ c.requires.laid c.requires.distinct (placed c)

pub returns-in_err-entry-clause-kept : goal.returns-in_err-entry-clause-kept
returns-in_err-entry-clause-kept c = grind (arith, kept (goal.at.returns-in_err-entry-clause-kept c).After-entry)

pub returns-in_default-clause-repeated : goal.returns-in_default-clause-repeated
returns-in_default-clause-repeated c = grind
    (arith, placed-has _ _ (placed (goal.at.returns-in_default-clause-repeated c).After-entry) c.args.code)

pub returns-in_default-clause-kept : goal.returns-in_default-clause-kept
returns-in_default-clause-kept c = grind (arith, kept (goal.at.returns-in_default-clause-kept c).After-entry)

pub returns-in_err-extend_from_slice-clause-kept : goal.returns-in_err-extend_from_slice-clause-kept
returns-in_err-extend_from_slice-clause-kept c =
    grind (arith, kept (goal.at.returns-in_err-extend_from_slice-clause-kept c).After-entry)

pub returns-clause-new : goal.returns-clause-new
returns-clause-new c = grind
    (arith, placed-lacks _ _ (placed (goal.at.returns-clause-new c).After-entry) c.args.code)

pub returns-clause-placed : goal.returns-clause-placed
returns-clause-placed c =
    λ d same.
    let last = sym (length-map c.args.rows.now (declaration_from c.args.all.now.items)) in
    placed-more _ _ (placed (goal.at.returns-clause-placed c).After-entry) c.args.code _ d (length c.args.rows.now)
    (sym same) last (rw c.in-Vacant.is at c.in_ok-entry.ensures.found)
    (search rules) (search rules) (search rules) (search rules)
