use Rattle.dwarf_reader_core.proofs.Common.{common_steps, ◌-◌, ◌/◌, ◌+◌, pos, arith, lt-ltb, length-take, ints}
use Rattle.dwarf_reader_core.proofs.leb.Bits.{digit-continued}
use Rattle.dwarf_reader_core.proofs.leb.Writing.{FitsByte, begun-ends, begun-more, begun-padded, room_left}
use Rattle.dwarf_reader_core.proofs.leb128.write.Leb128.unsigned.Goals as goal

pub invariant_of-result : goal.invariant_of-result
invariant_of-result c = begun-padded c.digits.invariant.begun _ (omega arith) (omega arith)

pub returns-then-rest-eq0-clause-shortest : goal.returns-then-rest-eq0-clause-shortest
returns-then-rest-eq0-clause-shortest c = begun-ends c.digits.invariant.begun _ (omega arith) (omega arith)

pub returns-then-rest-eq0-clause-read : goal.returns-then-rest-eq0-clause-read
returns-then-rest-eq0-clause-read c rest =
    grind (arith, common_steps, returns-then-rest-eq0-clause-shortest, length-take, lt-ltb)

pub digits-preserved : goal.digits-preserved
digits-preserved c =
    let rest = c.digits.rest in
    let digit = c.low_bits_of_u64-digit.result in
    let wide : FitsByte (pos rest) → ⊥ = λ fits. omega (arith, ints, fits.1) in
    let room = room_left (9 - c.digits.len) (9 - (c.digits.len + 1)) (pos rest) (pos (rest / 128)) digit (omega arith)
    (omega arith) wide (omega (arith, ints)) c.digits.invariant.fits in
    rw (digit-continued digit (omega arith)) (record {
      begun = begun-more c.digits.invariant.begun digit (omega arith) (rest / 128)
          (λ b small same. omega arith) (omega arith) (omega (arith, room.0));
      fits = room.1;
    })
