use Rattle.dwarf_listing_core.proofs.Common.{◌-◌, ◌∙◌, arith, drop, length-set}
use Rattle.dwarf_listing_core.proofs.Digits.{hexadecimal-placed, last_digit_put, next_digit_put}
use Rattle.dwarf_listing_core.proofs.sets.put_hexadecimal.Goals as goal

pub loop-start-init : goal.loop-start-init
loop-start-init c =
    (omega arith, c.told-line, hexadecimal-placed c.args.number (drop 16 c.args.line.now) (omega (arith, c.ranges.number)))

pub loop-start-preserved : goal.loop-start-preserved
loop-start-preserved c =
    let l = c.loop-start in
    let kept = length-set l.line (l.start - 1) c.digit.result ∙ l.invariant.1 in (
      omega arith,
      kept,
      next_digit_put l.line l.start l.rest _ c.loop-start-test.true (omega arith) c.digit.ensures
          c.if-rest-eq0.false
          ∙ l.invariant.2,
    )

pub returns-then-rest-eq0 : goal.returns-then-rest-eq0
returns-then-rest-eq0 c =
    let l = c.loop-start in
    record {
      bound = omega arith;
      digits = last_digit_put l.line l.start l.rest _ c.loop-start-test.true (omega arith) c.digit.ensures
          c.if-rest-eq0.true ∙ l.invariant.2;
    }
