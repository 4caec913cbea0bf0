use Rattle.dwarf_reader_core.proofs.Common.{◌∙◌, rules, signed64, true, false, arith, refl}
use Rattle.dwarf_reader_core.proofs.leb.Reading.{begun_below, begun_none, cut_rejects, begun_below_nine, next_below, next_continues, reads_signed, reads_tenth_signed, rejects_tenth_signed}
use Rattle.dwarf_reader_core.proofs.endian_slice.EndianSliceReader.read_sleb128.Goals as goal

pub with_digit-result-requires-in-loop-index-clause-below : goal.with_digit-result-requires-in-loop-index-clause-below
with_digit-result-requires-in-loop-index-clause-below g c = begun_below c.loop-index.invariant.begun

pub loop-index-preserved : goal.loop-index-preserved
loop-index-preserved g c = record {
  begun = next_continues c.loop-index.invariant.begun c.in_ok-byte.ensures.ok _
      (c.if-not-has_continuation_bit-2.ensures.0 refl) c.with_digit-result-in-loop-index.ensures;
  order = c.in_ok-byte.ensures.order ∙ c.loop-index.invariant.order;
}

pub with_sign-requires-then-not-has_continuation_bit-2-clause-below : goal.with_sign-requires-then-not-has_continuation_bit-2-clause-below
with_sign-requires-then-not-has_continuation_bit-2-clause-below g c =
    next_below c.loop-index.invariant.begun c.in_ok-byte.ensures.ok _ _ c.with_digit-result-in-loop-index.ensures refl

pub returns-then-not-has_continuation_bit-2-clause-ok : goal.returns-then-not-has_continuation_bit-2-clause-ok
returns-then-not-has_continuation_bit-2-clause-ok g c =
    reads_signed c.loop-index.invariant.begun c.in_ok-byte.ensures.ok _ _ _ _ (grind arith) (omega arith)
    c.with_digit-result-in-loop-index.ensures refl c.has_sign_bit-then-not-has_continuation_bit-2.ensures
    c.with_sign-then-not-has_continuation_bit-2.ensures (search rules)

pub returns-in-0-clause-ok : goal.returns-in-0-clause-ok
returns-in-0-clause-ok g c =
    reads_tenth_signed c.loop-index.invariant.begun c.in_ok-byte-2.ensures.ok _ false (omega arith) c.in-0.is
    c.with_sign-in-0.ensures (search rules)

pub returns-in-127-clause-ok : goal.returns-in-127-clause-ok
returns-in-127-clause-ok g c =
    reads_tenth_signed c.loop-index.invariant.begun c.in_ok-byte-2.ensures.ok _ true (omega arith) c.in-127.is
    c.with_sign-in-127.ensures (search rules)

pub returns-in_default-clause-err : goal.returns-in_default-clause-err
returns-in_default-clause-err g c =
    rejects_tenth_signed c.loop-index.invariant.begun c.in_ok-byte-2.ensures.ok (omega arith) (search rules)
    (search rules)

pub with_sign-requires-in-0-clause-below : goal.with_sign-requires-in-0-clause-below
with_sign-requires-in-0-clause-below g c = begun_below_nine c.loop-index.invariant.begun (omega arith)

pub with_sign-requires-in-127-clause-below : goal.with_sign-requires-in-127-clause-below
with_sign-requires-in-127-clause-below g c = begun_below_nine c.loop-index.invariant.begun (omega arith)

pub returns-then-not-has_continuation_bit-clause-ok : goal.returns-then-not-has_continuation_bit-clause-ok
returns-then-not-has_continuation_bit-clause-ok g c =
    reads_signed (begun_none _) c.in_ok-first.ensures.ok _ _ _ _ (grind arith) (omega arith)
    c.with_digit-result.ensures refl c.has_sign_bit.ensures c.with_sign.ensures (search rules)

pub returns-in_err-byte-clause-err : goal.returns-in_err-byte-clause-err
returns-in_err-byte-clause-err g c =
    search (rules, cut_rejects signed64 c.loop-index.invariant.begun (omega arith) c.in_err-byte.ensures.err)

pub returns-in_err-byte-2-clause-err : goal.returns-in_err-byte-2-clause-err
returns-in_err-byte-2-clause-err g c =
    search (rules, cut_rejects signed64 c.loop-index.invariant.begun (omega arith) c.in_err-byte-2.ensures.err)
