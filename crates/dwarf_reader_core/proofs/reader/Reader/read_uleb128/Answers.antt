use Rattle.dwarf_reader_core.proofs.Common.{◌∙◌, rules, arith, refl, unsigned64}
use Rattle.dwarf_reader_core.proofs.leb.Reading.{begun_below, begun_none, cut_rejects, next_continues, reads_unsigned, reads_tenth_unsigned, rejects_tenth_unsigned}
use Rattle.dwarf_reader_core.proofs.reader.Reader.read_uleb128.Goals as goal

pub with_digit-result-requires-in-loop-index-clause-below : goal.with_digit-result-requires-in-loop-index-clause-below
with_digit-result-requires-in-loop-index-clause-below g c = begun_below c.loop-index.invariant.begun

pub loop-index-preserved : goal.loop-index-preserved
loop-index-preserved g c = record {
  begun = next_continues c.loop-index.invariant.begun c.in_ok-byte.ensures.ok _
      (c.if-not-has_continuation_bit-2.ensures.0 refl) c.with_digit-result-in-loop-index.ensures;
  order = c.in_ok-byte.ensures.order ∙ c.loop-index.invariant.order;
}

pub returns-then-not-has_continuation_bit-2-clause-ok : goal.returns-then-not-has_continuation_bit-2-clause-ok
returns-then-not-has_continuation_bit-2-clause-ok g c =
    reads_unsigned c.loop-index.invariant.begun c.in_ok-byte.ensures.ok _ (grind arith) (omega arith)
    c.with_digit-result-in-loop-index.ensures c.with_digit-result-in-loop-index.type_inv

pub returns-then-byte-gt-MAX_TENTH_BYTE-clause-err : goal.returns-then-byte-gt-MAX_TENTH_BYTE-clause-err
returns-then-byte-gt-MAX_TENTH_BYTE-clause-err g c =
    rejects_tenth_unsigned c.loop-index.invariant.begun c.in_ok-byte-2.ensures.ok (omega arith) (omega arith)

pub returns-clause-ok : goal.returns-clause-ok
returns-clause-ok g c =
    reads_tenth_unsigned c.loop-index.invariant.begun c.in_ok-byte-2.ensures.ok _ (omega arith) (omega arith)
    (search rules)

pub returns-then-not-has_continuation_bit-clause-ok : goal.returns-then-not-has_continuation_bit-clause-ok
returns-then-not-has_continuation_bit-clause-ok g c =
    reads_unsigned (begun_none _) c.in_ok-first.ensures.ok _ (grind arith) (omega arith) (grind arith) (grind arith)

pub returns-in_err-byte-clause-err : goal.returns-in_err-byte-clause-err
returns-in_err-byte-clause-err g c =
    search (rules, cut_rejects unsigned64 c.loop-index.invariant.begun (omega arith) c.in_err-byte.ensures.err)

pub returns-in_err-byte-2-clause-err : goal.returns-in_err-byte-2-clause-err
returns-in_err-byte-2-clause-err g c =
    search (rules, cut_rejects unsigned64 c.loop-index.invariant.begun (omega arith) c.in_err-byte-2.ensures.err)
