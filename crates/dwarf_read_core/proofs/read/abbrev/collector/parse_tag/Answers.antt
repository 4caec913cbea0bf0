use Rattle.dwarf_read_core.proofs.Common.{arith, refl, tag_at, gives_err}
use Rattle.dwarf_read_core.proofs.tables.ReadingNumbers.{number_steps, number_not_read, end_stays}
use Rattle.dwarf_read_core.proofs.read.abbrev.collector.parse_tag.Goals as goal

pub returns-in_err-value-clause-read : goal.returns-in_err-value-clause-read
unfolding tag_at
returns-in_err-value-clause-read g c =
    gives_err _ _ c.from_residual.ensures.1 (λ memory. rw (number_not_read c.in_err-value.ensures.err) refl)

pub returns-then-value-eq0-clause-read : goal.returns-then-value-eq0-clause-read
unfolding tag_at
returns-then-value-eq0-clause-read g c = grind (arith, number_steps)

pub returns-else-value-eq0-clause-read : goal.returns-else-value-eq0-clause-read
unfolding tag_at
returns-else-value-eq0-clause-read g c = grind (arith, number_steps)

pub returns-else-value-eq0-clause-same_end : goal.returns-else-value-eq0-clause-same_end
returns-else-value-eq0-clause-same_end g c = end_stays c.in_ok-value.ensures.ok
