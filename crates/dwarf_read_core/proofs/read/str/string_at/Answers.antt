use Rattle.dwarf_read_core.proofs.lookups.Results.{read_at-missed, result-propagated}
use Rattle.dwarf_read_core.proofs.lookups.Strings.{string-read}
use Rattle.dwarf_read_core.proofs.read.str.string_at.Goals as goal

pub returns-clause-answer : goal.returns-clause-answer
returns-clause-answer g c =
    string-read _ _ _ _ _ _ _ (rw c.in_ok-input.ensures.ok at c.in_ok-skip.ensures.ok)
    c.read_null_terminated_slice.ensures.ok c.read_null_terminated_slice.ensures.err

pub returns-in_err-skip-clause-answer : goal.returns-in_err-skip-clause-answer
returns-in_err-skip-clause-answer g c =
    result-propagated _ c.from_residual-in_err-skip.ensures.1
    (read_at-missed _ (rw c.in_ok-input.ensures.ok at c.in_err-skip.ensures.err))
