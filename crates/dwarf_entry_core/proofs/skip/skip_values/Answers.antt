use Rattle.std.proofs.Common.{rules, arith, inl, inr, refl}
use Rattle.std.proofs.Math.ListN.{drop_of_length-le}
use Rattle.dwarf_read_core.proofs.public.Results.{propagated-is}
use Rattle.dwarf_entry_core.proofs.AttributeLists.{drop-here}
use Rattle.dwarf_entry_core.proofs.skip.skip_values.Goals as goal

pub returns-in_err-skip_value-clause-read : goal.returns-in_err-skip_value-clause-read
returns-in_err-skip_value-clause-read g c =
    let here = drop-here c.args.specs.now c.loop-spec.spec-index c.spec-item.result c.loop-spec-test.true c.spec-item.is in
    let read = rw c.form.ensures at c.in_err-skip_value.ensures.read in
    rw (propagated-is _ c.from_residual.ensures.1) (c.loop-spec.invariant.missed _ _ (rw here (inl read)))

pub loop-spec-preserved : goal.loop-spec-preserved
loop-spec-preserved g c =
    let here = drop-here c.args.specs.now c.loop-spec.spec-index c.spec-item.result c.loop-spec-test.true c.spec-item.is in
    let read = rw c.form.ensures at c.in_ok-skip_value.ensures.read in
    record {
      found = λ new h. c.loop-spec.invariant.found new (rw here (tt, _, read, h));
      missed = λ e new h. c.loop-spec.invariant.missed e new (rw here (inr (tt, _, read, h)));
      order = search rules;
    }

pub returns-clause-read : goal.returns-clause-read
returns-clause-read g c =
    let none = drop_of_length-le c.args.specs.now {i = c.loop-spec.spec-index} (omega arith) in
    c.loop-spec.invariant.found _ (rw none refl)
