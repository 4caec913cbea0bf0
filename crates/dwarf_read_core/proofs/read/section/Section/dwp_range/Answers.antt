use Rattle.dwarf_read_core.proofs.Common.{Err, rules}
use Rattle.dwarf_read_core.proofs.lookups.Results.{read_at-missed, read_at-reached, result-propagated}
use Rattle.dwarf_read_core.proofs.lookups.Ranges.{range_taken}
use Rattle.dwarf_read_core.proofs.read.section.Section.dwp_range.Goals as goal

pub returns-in_err-truncate-clause-answer : goal.returns-in_err-truncate-clause-answer
returns-in_err-truncate-clause-answer g c =
    result-propagated _ c.from_residual-in_err-truncate.ensures.1
    (read_at-reached _ _ (Err _) (rw (c.from_u32.ensures, c.in_ok-part.ensures.ok, c.reader.ensures) at c.in_ok-skip.ensures.ok)
    (rw c.from_u32-2.ensures at c.in_err-truncate.ensures.err))

pub returns-in_err-skip-clause-answer : goal.returns-in_err-skip-clause-answer
returns-in_err-skip-clause-answer g c =
    result-propagated _ c.from_residual-in_err-skip.ensures.1
    (read_at-missed _ (rw (c.from_u32.ensures, c.in_ok-part.ensures.ok, c.reader.ensures) at c.in_err-skip.ensures.err))

pub returns-clause-answer : goal.returns-clause-answer
returns-clause-answer g c =
    record {
      ok = range_taken _
          (rw (c.from_u32.ensures, c.in_ok-part.ensures.ok, c.reader.ensures) at c.in_ok-skip.ensures.ok)
          (rw c.from_u32-2.ensures at c.in_ok-truncate.ensures.enough)
          (search rules);
      err = tt;
    }
