use Rattle.dwarf_listing_core.proofs.Common.{◌≤◌, length, take, Appends}
use Rattle.dwarf_listing_core.proofs.output.write_out.Given as goal

-- how many of the bytes were written
abbrev pub invariant-calls : goal.invariant-calls
invariant-calls g l = record {
  within : l.written ≤ length l.bytes;
  appended : Appends (g.O.Write.contents l.initial.output) (g.O.Write.contents l.output) (take l.written l.bytes);
}
