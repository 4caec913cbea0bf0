use Rattle.dwarf_unit_core.proofs.UnitResults.{error-seen, error-stays, found-seen, found-stays}
use Rattle.dwarf_unit_core.proofs.info.DebugInfo.header_from_offset.Goals as goal

pub returns-in-Ok-clause-answer : goal.returns-in-Ok-clause-answer
returns-in-Ok-clause-answer g c =
    found-seen (rw c.fields-fields.ensures at c.from_contribution.ensures.seen) c.in-Ok.ensures.answer

pub returns-in-Ok-clause-stable : goal.returns-in-Ok-clause-stable
returns-in-Ok-clause-stable g c =
    found-stays (rw c.fields-fields.ensures at c.from_contribution.ensures.seen) c.in-Ok.ensures.stable

pub returns-in-Err-clause-answer : goal.returns-in-Err-clause-answer
returns-in-Err-clause-answer g c = error-seen c.in-Err.ensures.answer

pub returns-in-Err-clause-stable : goal.returns-in-Err-clause-stable
returns-in-Err-clause-stable g c = error-stays c.in-Err.ensures.stable
