use Rattle.dwarf_read_core.proofs.Common.{arith, rules, ◌≡◌, ◌≢◌, [], sym, ◌∙◌, gives_err, insert}
use Rattle.dwarf_read_core.proofs.tables.ReadingTables.{declaration-coded, table_fails, table_goes_on, table_repeats, table_steps}
use Rattle.dwarf_read_core.proofs.tables.TablesAreRead.{begins_with_none, begins_with_read, begins_before_null, begins_before_end}
use Rattle.dwarf_read_core.proofs.read.abbrev.parse.parse.Goals as goal

pub returns-in-Err-clause-ends : goal.returns-in-Err-clause-ends
returns-in-Err-clause-ends g c = grind (arith, table_steps, declaration-coded)

pub returns-in-Err-clause-read : goal.returns-in-Err-clause-read
returns-in-Err-clause-read g c =
    let loop = c.declarations in
    let some : (g.R.Reader.view loop.input).bytes ≢ [] = search rules in
    λ memory. sym loop.invariant.read ∙ table_fails _ _ _ _ (declaration-coded _ _ some
    ∙ rw loop.invariant.same_end at (c.in-Err.ensures.read memory))

pub returns-in_err-declare-in-Ok-Some-clause-ends : goal.returns-in_err-declare-in-Ok-Some-clause-ends
returns-in_err-declare-in-Ok-Some-clause-ends g c = grind (arith, table_steps, declaration-coded)

pub returns-in_err-declare-in-Ok-Some-clause-read : goal.returns-in_err-declare-in-Ok-Some-clause-read
returns-in_err-declare-in-Ok-Some-clause-read g c =
    let loop = c.declarations in
    let some : (g.R.Reader.view loop.input).bytes ≢ [] = search rules in
    let d = c.in-Ok-Some.declaration in
    gives_err _ _ c.from_residual.ensures.1 (λ memory.
    let r = c.in_err-declare-in-Ok-Some.ensures.repeated memory in
    rw r.1 (sym loop.invariant.read ∙ table_repeats _ _ _ d _ (declaration-coded _ _ some
    ∙ rw (loop.invariant.same_end, c.in-Ok-Some.field-0-is) at c.in-Ok-Some.ensures.read) r.0))

pub returns-in-Ok-None-clause-read : goal.returns-in-Ok-None-clause-read
returns-in-Ok-None-clause-read g c = grind (arith, table_steps, declaration-coded)

pub returns-in-Ok-None-clause-after : goal.returns-in-Ok-None-clause-after
returns-in-Ok-None-clause-after g c =
    let loop = c.declarations in
    let some : (g.R.Reader.view loop.input).bytes ≢ [] = search rules in
    let closes = begins_before_null _ loop.invariant.begins some (declaration-coded _ _ some
    ∙ rw (loop.invariant.same_end, c.in-Ok-None.field-0-is) at c.in-Ok-None.ensures.read) in
    grind arith

pub returns-clause-read : goal.returns-clause-read
returns-clause-read g c = grind (arith, table_steps)

pub returns-clause-after : goal.returns-clause-after
returns-clause-after g c = let closes = begins_before_end c.declarations.invariant.begins in grind (arith, closes)

pub declarations-init : goal.declarations-init
declarations-init g c = grind (arith, begins_with_none)

pub declarations-preserved : goal.declarations-preserved
declarations-preserved g c =
    let loop = c.declarations in
    let t = g.T.AbbreviationSink.table loop.table in
    let some : (g.R.Reader.view loop.input).bytes ≢ [] = search rules in
    let d = c.in-Ok-Some.declaration in
    let declared = c.in_ok-declare-in-Ok-Some.ensures in
    let next = declaration-coded _ _ some
    ∙ rw (loop.invariant.same_end, c.in-Ok-Some.field-0-is) at c.in-Ok-Some.ensures.read in
    let more : (g.T.AbbreviationSink.table c.declare.new.self).by_code ≡ insert t.by_code d.code d = declared.ok in
    record {
      read = rw more (sym (table_goes_on _ _ _ d _ next declared.new) ∙ loop.invariant.read);
      begins = rw more (begins_with_read _ d loop.invariant.begins next declared.new);
      unclosed = declared.close ∙ loop.invariant.unclosed;
      first = λ rest none. let same = loop.invariant.first rest none in grind (arith, next, same, none);
      same_end = c.in-Ok-Some.ensures.same_end ∙ loop.invariant.same_end;
    }

pub declarations-smaller : goal.declarations-smaller
declarations-smaller g c = grind (arith, table_steps, declaration-coded)
