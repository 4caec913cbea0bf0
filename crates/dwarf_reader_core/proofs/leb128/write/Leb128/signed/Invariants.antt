use Rattle.dwarf_reader_core.proofs.Common.{◌-◌, signed64}
use Rattle.dwarf_reader_core.proofs.leb.Writing.{FitsBytes, IsBegun}
use Rattle.dwarf_reader_core.proofs.leb128.write.Leb128.signed.Given as goal

-- the bytes so far, with the shortest encoding of the rest after them, are the shortest of the number
abbrev pub invariant-digits : goal.invariant-digits
invariant-digits l = record {
  begun : IsBegun signed64 l.value l.rest l.bytes l.len;
  fits : FitsBytes (9 - l.len) l.rest;
}

abbrev pub decreases-digits : goal.decreases-digits
decreases-digits l = 10 - l.len
