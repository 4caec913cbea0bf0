use Rattle.dwarf_read_c.proofs.AbsentNumbers.{number_rejected}
use Rattle.dwarf_read_c.proofs.numbers.dwarf_uleb128.Goals as goal

pub returns-in-Err-clause-rejected : goal.returns-in-Err-clause-rejected
returns-in-Err-clause-rejected c =
    λ _. number_rejected (rw c.new-input.ensures.view at c.in-Err.ensures.err) c.reject.ensures.status
    c.reject.ensures.reported
