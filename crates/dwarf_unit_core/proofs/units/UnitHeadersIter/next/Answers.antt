use Rattle.std.proofs.Common.{◌∙◌, arith}
use Rattle.dwarf_unit_core.proofs.UnitResults.{unit-least}
use Rattle.dwarf_unit_core.proofs.units.UnitHeadersIter.next.Goals as goal

pub returns-in-Ok-Some-clause-first : goal.returns-in-Ok-Some-clause-first
returns-in-Ok-Some-clause-first g c =
    rw (rw c.fields-fields.ensures at c.from_contribution.ensures.seen)
    (rw c.in-Ok-Some.field-0-is at c.in-Ok-Some.ensures.first)

pub returns-in-Ok-Some-clause-stable : goal.returns-in-Ok-Some-clause-stable
returns-in-Ok-Some-clause-stable g c =
    rw (rw c.fields-fields.ensures at c.from_contribution.ensures.seen)
    (rw c.in-Ok-Some.field-0-is at c.in-Ok-Some.ensures.stable)

pub returns-in-Ok-Some-clause-bound : goal.returns-in-Ok-Some-clause-bound
returns-in-Ok-Some-clause-bound g c =
    let taken = rw c.in-Ok-Some.field-0-is at c.in-Ok-Some.ensures.bound in
    omega (arith, taken, unit-least g.U.UnitSection.TYPE_BEFORE_5.0 _ (rw c.in-Ok-Some.field-0-is at c.in-Ok-Some.ensures.first))

pub returns-in-Ok-Some-clause-entries_order : goal.returns-in-Ok-Some-clause-entries_order
returns-in-Ok-Some-clause-entries_order g c =
    c.from_contribution.ensures.order ∙ (rw c.in-Ok-Some.field-0-is at c.in-Ok-Some.ensures.entries_order)

pub returns-in-Ok-None-clause-first : goal.returns-in-Ok-None-clause-first
returns-in-Ok-None-clause-first g c = rw c.in-Ok-None.field-0-is at c.in-Ok-None.ensures.first

pub returns-in-Err-clause-first : goal.returns-in-Err-clause-first
returns-in-Err-clause-first g c = c.in-Err.ensures.first

pub returns-in-Err-clause-stable : goal.returns-in-Err-clause-stable
returns-in-Err-clause-stable g c = c.in-Err.ensures.stable
