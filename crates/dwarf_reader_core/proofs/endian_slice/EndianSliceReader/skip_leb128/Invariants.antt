use Rattle.dwarf_reader_core.proofs.Common.{◌≡◌, ◌≤◌, take, TakesByte, NoneIsLast}
use Rattle.dwarf_reader_core.proofs.leb.Reading.{slice_input}
use Rattle.dwarf_reader_core.proofs.endian_slice.EndianSliceReader.skip_leb128.Given as goal

-- none of the bytes after the first and before the index is the last of the encoding
abbrev pub invariant-loop-index : goal.invariant-loop-index
invariant-loop-index g l =
    let is_big = g.Endian.Endianity.is_big in
    let old = slice_input l.fn.self.slice.now l.fn.self.end (is_big l.fn.self.endian) in
    let mid = slice_input l.initial.self.slice.now l.initial.self.end (is_big l.initial.self.endian) in
    TakesByte old l.first mid × (128 ≤ l.first) × NoneIsLast (take l.index mid.bytes) × (l.self ≡ l.initial.self)
