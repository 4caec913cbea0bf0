use Rattle.dwarf_reader_core.proofs.Common.{rules, arith, common_steps, ◌≤◌, ◌≡◌, ◌<◌, get_or, Input}
use Rattle.dwarf_reader_core.proofs.leb.Reading.{begun_cut, begun_none, encoding_found}
use Rattle.dwarf_reader_core.proofs.leb.Encodings.{NoneIsLast-push}
use Rattle.dwarf_reader_core.proofs.endian_slice.EndianSliceReader.skip_leb128.Goals as goal

pub returns-then-not-has_continuation_bit-2-clause-ok : goal.returns-then-not-has_continuation_bit-2-clause-ok
returns-then-not-has_continuation_bit-2-clause-ok g c =
    let found = c.loop-index.invariant in
    let last : get_or c.read_u8.new.self.slice.now c.loop-index.index 0 < 128 = search rules in
    let ends = λ (new : Input). encoding_found {new = new} c.loop-index.index found.0 found.1 found.2 last in
    let is : c.loop-index.self ≡ c.read_u8.new.self = found.3 in
    search (rules, ends, is)

pub returns-in_err-first-clause-err : goal.returns-in_err-first-clause-err
returns-in_err-first-clause-err g c = search (rules, (begun_cut (begun_none _) c.in_err-first.ensures.err).0)

pub loop-index-preserved : goal.loop-index-preserved
loop-index-preserved g c =
    let found = c.loop-index.invariant in
    let more : 128 ≤ get_or c.read_u8.new.self.slice.now c.loop-index.index 0 = search rules in
    (found.0, found.1, grind (arith, common_steps, NoneIsLast-push), found.3)
