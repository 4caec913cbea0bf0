use Rattle.std.proofs.Common.{arith, drop, map, rules, suc, take}
use Rattle.std.proofs.lemmas.Result.{err_from_is_err_and}
use Rattle.dwarf_uses.proofs.Lengths.{lengths_next, numbers_around}
use Rattle.dwarf_uses.proofs.callers.table_lengths.Goals as goal

pub returns-in_err-get-clause-err : goal.returns-in_err-get-clause-err
returns-in_err-get-clause-err g c =
    let p = err_from_is_err_and c.from_residual-in_err-get.result c.from_residual-in_err-get.ensures.1 in
    let units = c.args.units.now in
    let i = c.loop-offset.offset-index in
    rw (p.1, p.2) (λ memory. record {
      before = map (λ unit. g.R.Offset.ReaderOffset.value unit.0) (take i units);
      offset = g.R.Offset.ReaderOffset.value c.offset-item.result.0;
      following = map (λ unit. g.R.Offset.ReaderOffset.value unit.0) (drop (suc i) units);
      parts = numbers_around (λ unit. g.R.Offset.ReaderOffset.value unit.0) units i c.offset-item.result
          (search rules) (search rules);
      lengths = c.loop-offset.lengths.items;
      tables = c.loop-offset.invariant;
      fault = c.in_err-get.ensures.faithful c.in_ok-populate.ensures.faithful memory;
    })

pub loop-offset-preserved : goal.loop-offset-preserved
loop-offset-preserved g c =
    let answer = c.in_ok-get.ensures.faithful c.in_ok-populate.ensures.faithful in
    rw c.in_ok-push.ensures.items (lengths_next (λ unit. g.R.Offset.ReaderOffset.value unit.0) c.args.units.now
    c.loop-offset.offset-index c.offset-item.result (search rules) (search rules) _ _ _ c.loop-offset.invariant
    (c.in_ok-get.field-0.value, answer, grind arith))
