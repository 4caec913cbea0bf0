use Rattle.dwarf_reader_core.proofs.Common.{common_steps, ◌-◌, ◌+◌, ◌%◌, to_z, w64, refl, arith, length-take, to_z-of_z, false≢true}
use Rattle.dwarf_reader_core.proofs.leb.Bits.{digit-continued}
use Rattle.dwarf_reader_core.proofs.leb.Encodings.{i64-in_range}
use Rattle.dwarf_reader_core.proofs.leb.SignedBits.{low_digit_signed, rest_of, split}
use Rattle.dwarf_reader_core.proofs.leb.Writing.{FitsByte, begun-ends, begun-more, begun-padded, room_left, signed_value-only}
use Rattle.dwarf_reader_core.proofs.leb128.write.Leb128.signed.Goals as goal

pub invariant_of-result : goal.invariant_of-result
invariant_of-result c =
    let bits = c.digits.rest-bits in
    rw (low_digit_signed bits) (begun-padded c.digits.invariant.begun (bits % 128) (omega arith)
    (signed_value-only (to_z w64 bits) (rest_of bits) (bits % 128) (omega arith)
    (c.if-fits_byte.ensures.0 refl) (split bits (omega arith))))

pub returns-then-fits_byte-clause-shortest : goal.returns-then-fits_byte-clause-shortest
returns-then-fits_byte-clause-shortest c =
    let bits = c.digits.rest-bits in
    rw (low_digit_signed bits, ← to_z-of_z w64 c.args.value c.ranges.value)
    (begun-ends c.digits.invariant.begun (bits % 128) (omega arith)
    (signed_value-only (to_z w64 bits) (rest_of bits) (bits % 128) (omega arith)
    (c.if-fits_byte.ensures.0 refl) (split bits (omega arith))))

pub returns-then-fits_byte-clause-read : goal.returns-then-fits_byte-clause-read
returns-then-fits_byte-clause-read c rest =
    grind (arith, common_steps, returns-then-fits_byte-clause-shortest, length-take, i64-in_range)

pub digits-preserved : goal.digits-preserved
digits-preserved c =
    let bits = c.digits.rest-bits in
    let wide : FitsByte (to_z w64 bits) → ⊥ = λ fits. false≢true (c.if-fits_byte.ensures.1 fits) in
    let is = split bits (omega arith) in
    let room = room_left (9 - c.digits.len) (9 - (c.digits.len + 1)) (to_z w64 bits) (rest_of bits) (bits % 128)
    (omega arith) (omega arith) wide is c.digits.invariant.fits in
    rw (low_digit_signed bits, digit-continued (bits % 128) (omega arith)) (record {
      begun = begun-more c.digits.invariant.begun (bits % 128) (omega arith) (rest_of bits)
          (λ b small same. wide (rw (← same) (grind arith))) is (omega (arith, room.0));
      fits = room.1;
    })
