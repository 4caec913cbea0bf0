use Rattle.std.proofs.Common.{Err, Ok}
use Rattle.dwarf_read_core.proofs.lookups.Results.{read_at-missed, read_at-reached, result-propagated}
use Rattle.dwarf_read_core.proofs.lookups.Words.{word-stays}
use Rattle.dwarf_read_core.proofs.read.str.DebugStrOffsets.get_str_offset.Goals as goal

pub returns-in_err-skip_to_word-clause-answer : goal.returns-in_err-skip_to_word-clause-answer
returns-in_err-skip_to_word-clause-answer g c =
    result-propagated _ c.from_residual-in_err-skip_to_word.ensures.1
    (read_at-missed _ (rw c.in_ok-input.ensures.ok at c.in_err-skip_to_word.ensures))

pub returns-in_err-skip_to_word-clause-stable : goal.returns-in_err-skip_to_word-clause-stable
returns-in_err-skip_to_word-clause-stable g c = word-stays _ _ _ (returns-in_err-skip_to_word-clause-answer g c)

pub returns-in_err-read_offset-clause-answer : goal.returns-in_err-read_offset-clause-answer
returns-in_err-read_offset-clause-answer g c =
    result-propagated _ c.from_residual-in_err-read_offset.ensures.1
    (read_at-reached _ _ (Err _) (rw c.in_ok-input.ensures.ok at c.in_ok-skip_to_word.ensures) c.in_err-read_offset.ensures.err)

pub returns-in_err-read_offset-clause-stable : goal.returns-in_err-read_offset-clause-stable
returns-in_err-read_offset-clause-stable g c = word-stays _ _ _ (returns-in_err-read_offset-clause-answer g c)

pub returns-clause-answer : goal.returns-clause-answer
returns-clause-answer g c =
    record {
      ok = read_at-reached _ _ (Ok _) (rw c.in_ok-input.ensures.ok at c.in_ok-skip_to_word.ensures)
          (c.in_ok-read_offset.ensures.ok, c.in_ok-read_offset.ensures.in_range);
      err = tt;
    }

pub returns-clause-stable : goal.returns-clause-stable
returns-clause-stable g c = word-stays _ _ _ (returns-clause-answer g c)
