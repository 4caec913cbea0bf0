use Rattle.dwarf_reader_core.proofs.Common.{◌≡◌}
use Rattle.dwarf_reader_core.proofs.leb.Reading.{Begun, slice_input}
use Rattle.dwarf_reader_core.proofs.endian_slice.EndianSliceReader.read_uleb128.Given as goal

-- the loop has consumed as many bytes as the index, all continued, and the byte order is unchanged
abbrev pub invariant-loop-index : goal.invariant-loop-index
invariant-loop-index g l =
    let is_big = g.Endian.Endianity.is_big in
    let old = slice_input l.fn.self.slice.now l.fn.self.end (is_big l.fn.self.endian) in
    let mid = slice_input l.self.slice.now l.self.end (is_big l.self.endian) in
    record { begun : Begun old l.index mid l.result; order : l.self.endian ≡ l.fn.self.endian }
