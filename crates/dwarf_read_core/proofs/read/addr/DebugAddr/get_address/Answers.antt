use Rattle.dwarf_read_core.proofs.lookups.Results.{read_at-missed, result-propagated}
use Rattle.dwarf_read_core.proofs.lookups.Words.{address-read, address-stays}
use Rattle.dwarf_read_core.proofs.read.addr.DebugAddr.get_address.Goals as goal

pub returns-in_err-skip_to_index-clause-answer : goal.returns-in_err-skip_to_index-clause-answer
returns-in_err-skip_to_index-clause-answer g c =
    result-propagated _ c.from_residual-in_err-skip_to_index.ensures.1
    (read_at-missed _ (rw c.in_ok-input.ensures.ok at c.in_err-skip_to_index.ensures))

pub returns-in_err-skip_to_index-clause-stable : goal.returns-in_err-skip_to_index-clause-stable
returns-in_err-skip_to_index-clause-stable g c =
    address-stays _ _ _ (returns-in_err-skip_to_index-clause-answer g c)

pub returns-clause-answer : goal.returns-clause-answer
returns-clause-answer g c =
    address-read _ _ _ _ _ _ _ (rw c.in_ok-input.ensures.ok at c.in_ok-skip_to_index.ensures)
    c.read_address.ensures.ok c.read_address.ensures.err

pub returns-clause-stable : goal.returns-clause-stable
returns-clause-stable g c = address-stays _ _ _ (returns-clause-answer g c)
