use Rattle.std.proofs.Common.{rules, arith, [], ◌∷◌, append-nil, ⊎_elim, inl, inr, refl}
use Rattle.std.proofs.Math.ListN.{drop_of_length-le}
use Rattle.dwarf_read_core.proofs.public.Results.{propagated-err}
use Rattle.dwarf_entry_core.specs.Seen.{SeenAttribute, seen_attribute}
use Rattle.dwarf_entry_core.proofs.AttributeLists.{drop-here, pushed}
use Rattle.dwarf_entry_core.proofs.Remaining.{left}
use Rattle.dwarf_entry_core.proofs.Values.{attributes-is}
use Rattle.dwarf_entry_core.proofs.entries.EntriesRaw.read_attributes.Goals as goal

pub returns-in_err-attribute-clause-err : goal.returns-in_err-attribute-clause-err
returns-in_err-attribute-clause-err g c =
    let here = drop-here c.args.specs.now c.loop-spec.spec-index c.spec-item.result c.loop-spec-test.true c.spec-item.is in
    let new = g.R.Reader.view c.read_attribute.new.self.input in
    propagated-err _ _ c.from_residual.ensures.1
    (⊎_elim (λ is. inl (c.loop-spec.invariant.missed c.in_err-attribute.field-0.0 new (rw here (inl is)))) (λ ran. inr ran.fault)
    (rw c.loop-spec.invariant.encoding at c.in_err-attribute.ensures.read))

pub loop-spec-preserved : goal.loop-spec-preserved
loop-spec-preserved g c =
    let here = drop-here c.args.specs.now c.loop-spec.spec-index c.spec-item.result c.loop-spec-test.true c.spec-item.is in
    let mid = g.R.Reader.view c.read_attribute.new.self.input in
    let read = rw c.loop-spec.invariant.encoding at c.in_ok-attribute.ensures.read in
    let x : SeenAttribute = seen_attribute g.R.Reader.view g.R.Offset.ReaderOffset.value c.in_ok-attribute.attribute in
    record {
      found = λ xs new h.
          rw (c.in_ok-push.ensures.items, pushed)
          (c.loop-spec.invariant.found (x ∷ xs) new
          (rw here (x, mid, read, (xs, refl, h))));
      missed = λ e new h. c.loop-spec.invariant.missed e new (rw here (inr (x, mid, read, h)));
      encoding = search rules;
      table = search rules;
      end = search rules;
      order = search rules;
    }

pub returns-clause-ok : goal.returns-clause-ok
returns-clause-ok g c =
    let none = drop_of_length-le c.args.specs.now {i = c.loop-spec.spec-index} (omega arith) in
    let now = g.R.Reader.view c.loop-spec.self.input in
    rw append-nil at (c.loop-spec.invariant.found [] now (rw none refl))

pub returns-clause-bound : goal.returns-clause-bound
returns-clause-bound g c = left (attributes-is _ _ c.args.specs.now) _ _ _ (returns-clause-ok g c)
