use Rattle.std.proofs.Common.{arith, refl}
use Rattle.dwarf_read_core.proofs.read.abbrev.DebugAbbrev.abbreviations_strict.Goals as goal

-- named for speed: the prover finds it by itself, too, but searches longer
pub returns-in_err-abbreviations-clause-stable : goal.returns-in_err-abbreviations-clause-stable
returns-in_err-abbreviations-clause-stable g c = grind arith

-- named for speed: the prover finds it by itself, too, but searches longer
pub returns-then-closed_by_null-clause-stable : goal.returns-then-closed_by_null-clause-stable
returns-then-closed_by_null-clause-stable g c = grind arith

-- named for speed: the prover finds it by itself, too, but searches longer
pub returns-else-closed_by_null-clause-answer : goal.returns-else-closed_by_null-clause-answer
returns-else-closed_by_null-clause-answer g c = grind arith

pub returns-else-closed_by_null-clause-stable : goal.returns-else-closed_by_null-clause-stable
returns-else-closed_by_null-clause-stable g c = λ final more. absurd (final.1 c.end_id.result.0 refl)
