use Rattle.dwarf_reader_core.proofs.Common.{◌≤◌, arith, refl}
use Rattle.dwarf_reader_core.proofs.leb.Reading.{begun_none, next_below, next_continues, reads_short, rejects_third_short}
use Rattle.dwarf_reader_core.proofs.reader.Reader.read_uleb128_u16.Goals as goal

pub returns-then-not-has_continuation_bit-clause-ok : goal.returns-then-not-has_continuation_bit-clause-ok
returns-then-not-has_continuation_bit-clause-ok g c =
    reads_short (begun_none _) c.in_ok-first.ensures.ok _ (grind arith) (omega arith) (grind arith) (grind arith)

pub returns-then-not-has_continuation_bit-2-clause-ok : goal.returns-then-not-has_continuation_bit-2-clause-ok
returns-then-not-has_continuation_bit-2-clause-ok g c =
    let one = next_continues (begun_none _) c.in_ok-first.ensures.ok _ (c.if-not-has_continuation_bit.ensures.0 refl)
    c.with_digit-one.ensures in
    let below = next_below one c.in_ok-second.ensures.ok _ 14 c.with_digit-two.ensures refl in
    reads_short one c.in_ok-second.ensures.ok _ (grind arith) (omega arith) c.with_digit-two.ensures
    (omega (arith, below))

pub returns-then-third-gt-MAX_THIRD_BYTE-clause-err : goal.returns-then-third-gt-MAX_THIRD_BYTE-clause-err
returns-then-third-gt-MAX_THIRD_BYTE-clause-err g c =
    let one = next_continues (begun_none _) c.in_ok-first.ensures.ok _ (c.if-not-has_continuation_bit.ensures.0 refl)
    c.with_digit-one.ensures in
    let two = next_continues one c.in_ok-second.ensures.ok _ (c.if-not-has_continuation_bit-2.ensures.0 refl)
    c.with_digit-two.ensures in
    rejects_third_short two c.in_ok-third.ensures.ok refl (omega arith)

pub returns-clause-ok : goal.returns-clause-ok
returns-clause-ok g c =
    let one = next_continues (begun_none _) c.in_ok-first.ensures.ok _ (c.if-not-has_continuation_bit.ensures.0 refl)
    c.with_digit-one.ensures in
    let two = next_continues one c.in_ok-second.ensures.ok _ (c.if-not-has_continuation_bit-2.ensures.0 refl)
    c.with_digit-two.ensures in
    let last : c.in_ok-third.third ≤ 3 = c.if-third-gt-MAX_THIRD_BYTE.false in
    reads_short two c.in_ok-third.ensures.ok _ (omega arith) (omega arith) c.with_digit.ensures (omega arith)
