use Rattle.dwarf_read_c.proofs.Common.{ap, arith, length, Input}
use Rattle.dwarf_read_core.proofs.public.Results.{propagated-err}
use Rattle.dwarf_read_c.proofs.tables.table_before.Goals as goal

pub returns-in_err-table-clause-other : goal.returns-in_err-table-clause-other
returns-in_err-table-clause-other c =
    let whole = ap (λ (s : Input). length s.bytes) c.new-section.ensures.view in
    propagated-err _ _ c.from_residual.ensures.1
    (λ memory within. c.in_err-table.ensures.other memory (omega (arith, whole, within)))
