use Rattle.dwarf_reader_core.proofs.Common.{rules, refl}
use Rattle.dwarf_reader_core.proofs.leb.Reading.{begun_cut, next_continues, next_encoding}
use Rattle.dwarf_reader_core.proofs.reader.Reader.skip_leb128.Goals as goal

pub returns-then-not-has_continuation_bit-clause-ok : goal.returns-then-not-has_continuation_bit-clause-ok
returns-then-not-has_continuation_bit-clause-ok g c =
    next_encoding c.loop-byte.invariant.begun.2 c.in_ok-byte.ensures.ok (search rules)

pub returns-in_err-byte-clause-err : goal.returns-in_err-byte-clause-err
returns-in_err-byte-clause-err g c =
    search (rules, (begun_cut c.loop-byte.invariant.begun.2 c.in_err-byte.ensures.err).0)

pub loop-byte-preserved : goal.loop-byte-preserved
loop-byte-preserved g c = record {
  begun = (_, _, next_continues c.loop-byte.invariant.begun.2 c.in_ok-byte.ensures.ok _ (search rules) refl);
  order = search rules;
}
