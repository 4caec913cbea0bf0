use Rattle.dwarf_read_core.proofs.Common.{arith, ap, Input, end_of, debug_abbrev_reader}
use Rattle.dwarf_read_core.proofs.tables.ExactlyOneAnswer.{error_read, nothing_declared, outside_of}
use Rattle.dwarf_read_core.proofs.read.abbrev.DebugAbbrev.abbreviations_before.Goals as goal

pub returns-in_err-skip-clause-err : goal.returns-in_err-skip-clause-err
returns-in_err-skip-clause-err g c = grind (arith, outside_of)

pub returns-in_err-table-clause-err : goal.returns-in_err-table-clause-err
returns-in_err-table-clause-err g c =
    error_read _ _ _ _ _ c.from_residual-in_err-table.ensures.1
    (rw c.in_ok-input.ensures.ok at c.in_ok-skip.ensures.ok) (λ memory. (c.in_err-table.ensures.err memory).0)

pub returns-in_err-table-clause-memory : goal.returns-in_err-table-clause-memory
returns-in_err-table-clause-memory g c =
    let view = g.R.Reader.view in
    let takes = rw c.in_ok-input.ensures.ok at c.in_ok-skip.ensures.ok in
    λ free nothing failed.
    let none = nothing_declared (end_of (view c.skip.new.self)) (view (debug_abbrev_reader c.args.self.now))
    (g.R.Offset.ReaderOffset.value c.args.offset.0) (view c.skip.new.self).bytes nothing
    (ap (λ (i : Input). i.bytes) takes.left) in
    let ok = c.in_err-table.ensures.ends none.0 none.1 in
    absurd cc
