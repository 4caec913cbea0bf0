use Rattle.dwarf_read_core.proofs.Common.{arith, ap, ℕ, Ok, Input, end_of, length-drop, debug_abbrev_reader}
use Rattle.dwarf_read_core.proofs.tables.ExactlyOneAnswer.{answer_read, error_read, nothing_declared, outside_of}
use Rattle.dwarf_read_core.proofs.tables.TableBounds.{answer_bound}
use Rattle.dwarf_read_core.proofs.tables.TablesAreRead.{table_before_fits}
use Rattle.dwarf_read_core.proofs.read.abbrev.DebugAbbrev.abbreviations_into.Goals as goal

pub returns-in_err-skip-clause-err : goal.returns-in_err-skip-clause-err
returns-in_err-skip-clause-err g c = grind (arith, outside_of)

pub returns-in_err-table-clause-err : goal.returns-in_err-table-clause-err
returns-in_err-table-clause-err g c =
    error_read _ _ _ _ _ c.from_residual-in_err-table.ensures.1
    (rw c.in_ok-input.ensures.ok at c.in_ok-skip.ensures.ok) c.in_err-table.ensures.read

pub returns-in_err-table-clause-memory : goal.returns-in_err-table-clause-memory
returns-in_err-table-clause-memory g c =
    let view = g.R.Reader.view in
    let takes = rw c.in_ok-input.ensures.ok at c.in_ok-skip.ensures.ok in
    λ free nothing failed.
    let none = nothing_declared (end_of (view c.skip.new.self)) (view (debug_abbrev_reader c.args.self.now))
    (g.R.Offset.ReaderOffset.value c.args.offset.0) (view c.skip.new.self).bytes nothing
    (ap (λ (i : Input). i.bytes) takes.left) in
    let ok = c.in_err-table.ensures.ends none.0 none.1 in
    absurd cc

pub sub-requires : goal.sub-requires
sub-requires g c =
    let fits = table_before_fits c.in_ok-table.ensures.after in
    grind (arith, fits, length-drop {A = ℕ}, g.met.R.Offset.ReaderOffset.can_sub_law)

pub returns-clause-answer : goal.returns-clause-answer
returns-clause-answer g c =
    answer_read (Ok (g.T.AbbreviationSink.table c.in_ok-table.table)) _ _ _
    (rw c.in_ok-input.ensures.ok at c.in_ok-skip.ensures.ok) c.in_ok-table.ensures.read

pub returns-clause-end : goal.returns-clause-end
returns-clause-end g c =
    let takes = rw c.in_ok-input.ensures.ok at c.in_ok-skip.ensures.ok in
    let following = c.in_ok-table.ensures.after in
    let fits = table_before_fits following in
    let less = g.met.R.Offset.ReaderOffset.sub_law _ _ _ c.sub.ensures in (
      (g.R.Reader.view c.parse.new.input).bytes,
      rw (← ap (λ (i : Input). i.bytes) takes.left) following,
      grind (arith, less, fits, length-drop {A = ℕ}),
    )

pub returns-clause-bound : goal.returns-clause-bound
returns-clause-bound g c = answer_bound (returns-clause-answer g c)
