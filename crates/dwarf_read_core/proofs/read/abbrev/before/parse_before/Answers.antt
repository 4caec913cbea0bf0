use Rattle.dwarf_read_core.proofs.Common.{arith, refl, rules, ◌≡◌, ◌≢◌, ◌∙◌, [], sym, true, false, nat_tests, insert, contains_key, OutOfMemory}
use Rattle.dwarf_reader_core.proofs.public.Results.{propagated-err}
use Rattle.std.specs.FinMap.{gets}
use Rattle.dwarf_read_core.proofs.tables.FirstDeclarations.{all_before_close, all_before_error, all_before_repeated, inserted_key}
use Rattle.dwarf_read_core.proofs.tables.ReadingIsComplete.{end_again}
use Rattle.dwarf_read_core.proofs.tables.ReadingTables.{declaration-coded, table_goes_on, table_repeats, table_steps}
use Rattle.dwarf_read_core.proofs.tables.TablesAreRead.{begins_with_none, begins_with_read}
use Rattle.dwarf_read_core.proofs.read.abbrev.before.parse_before.Goals.{then-eq, else-eq}
use Rattle.dwarf_read_core.proofs.read.abbrev.before.parse_before.Goals as goal

pub declarations-init : goal.declarations-init
declarations-init g c = grind (arith, begins_with_none, gets)

pub returns-then-is_repeated-clause-before : goal.returns-then-is_repeated-clause-before
returns-then-is_repeated-clause-before g c =
    let loop = c.declarations in
    let some : (g.R.Reader.view loop.input).bytes ≢ [] = search rules in
    let next = declaration-coded _ _ some
    ∙ rw (loop.invariant.same_end, c.in-Ok-Some.field-0-is) at c.in-Ok-Some.ensures.read in
    let has : contains_key (g.T.AbbreviationSink.table loop.table).by_code c.in-Ok-Some.declaration.code ≡ true =
    grind (arith, nat_tests, c.code.ensures.code, loop.invariant.declared) in
    (_, all_before_repeated _ loop.invariant.begins _ _ next has, loop.invariant.unclosed, search rules)

pub returns-in-Ok-None-clause-before : goal.returns-in-Ok-None-clause-before
returns-in-Ok-None-clause-before g c =
    let loop = c.declarations in
    let some : (g.R.Reader.view loop.input).bytes ≢ [] = search rules in
    let next = declaration-coded _ _ some
    ∙ rw (loop.invariant.same_end, c.in-Ok-None.field-0-is) at c.in-Ok-None.ensures.read in
    (_, all_before_close _ loop.invariant.begins _ next, loop.invariant.unclosed, search rules)

pub returns-in-Err-clause-ends : goal.returns-in-Err-clause-ends
returns-in-Err-clause-ends g c = grind (arith, table_steps, declaration-coded)

pub returns-in_err-declare-in-Ok-Some-clause-ends : goal.returns-in_err-declare-in-Ok-Some-clause-ends
returns-in_err-declare-in-Ok-Some-clause-ends g c = grind (arith, table_steps, declaration-coded)

pub returns-in-Err-clause-before : goal.returns-in-Err-clause-before
returns-in-Err-clause-before g c =
    let loop = c.declarations in
    let some : (g.R.Reader.view loop.input).bytes ≢ [] = search rules in
    elim c.if-eq.branch [
      | then-eq w ↦ rw w.result-is tt
      | else-eq w ↦
          let other : c.in-Err.fault ≢ OutOfMemory = grind (arith, w.if-eq) in
          let next = declaration-coded _ _ some ∙ rw loop.invariant.same_end at (c.in-Err.ensures.read other) in
          rw w.result-is
          (_, all_before_error _ loop.invariant.begins _ next, loop.invariant.unclosed, search rules)
    ]

pub returns-in_err-declare-in-Ok-Some-clause-err : goal.returns-in_err-declare-in-Ok-Some-clause-err
returns-in_err-declare-in-Ok-Some-clause-err g c =
    let loop = c.declarations in
    let some : (g.R.Reader.view loop.input).bytes ≢ [] = search rules in
    let d = c.in-Ok-Some.declaration in
    propagated-err _ _ c.from_residual.ensures.1 (λ memory.
    let r = c.in_err-declare-in-Ok-Some.ensures.repeated memory in (
      rw r.1 (sym loop.invariant.read ∙ table_repeats _ _ _ d _ (declaration-coded _ _ some
          ∙ rw (loop.invariant.same_end, c.in-Ok-Some.field-0-is) at c.in-Ok-Some.ensures.read) r.0),
      λ same. let code = c.repeated_code-repeated.ensures d.code (same ∙ r.1) in
          absurd (grind (arith, nat_tests, code, r.0, c.code.ensures.code, loop.invariant.declared)),
    ))

pub declarations-preserved : goal.declarations-preserved
declarations-preserved g c =
    let loop = c.declarations in
    let t = g.T.AbbreviationSink.table loop.table in
    let some : (g.R.Reader.view loop.input).bytes ≢ [] = search rules in
    let d = c.in-Ok-Some.declaration in
    let declared = c.in_ok-declare-in-Ok-Some.ensures in
    let next = declaration-coded _ _ some
    ∙ rw (loop.invariant.same_end, c.in-Ok-Some.field-0-is) at c.in-Ok-Some.ensures.read in
    let more : (g.T.AbbreviationSink.table c.declare.new.self).by_code ≡ insert t.by_code d.code d = declared.ok in
    record {
      read = rw more (sym (table_goes_on _ _ _ d _ next declared.new) ∙ loop.invariant.read);
      begins = rw more (begins_with_read _ d loop.invariant.begins next declared.new);
      unclosed = declared.close ∙ loop.invariant.unclosed;
      declared = rw (more, inserted_key t.by_code d c.repeated_code-repeated.result, loop.invariant.declared, c.code.ensures.code) refl;
      first = λ rest none. let same = loop.invariant.first rest none in grind (arith, next, same, none);
      same_end = c.in-Ok-Some.ensures.same_end ∙ loop.invariant.same_end;
    }

pub declarations-smaller : goal.declarations-smaller
declarations-smaller g c = grind (arith, table_steps, declaration-coded)
