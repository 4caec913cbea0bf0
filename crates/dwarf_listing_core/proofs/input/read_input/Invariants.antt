use Rattle.dwarf_listing_core.proofs.Common.{Consumes}
use Rattle.dwarf_listing_core.proofs.input.read_input.Given as goal

-- the bytes so far and those that the input still has are those that it had
abbrev pub invariant-loop : goal.invariant-loop
invariant-loop g l = Consumes (g.I.Read.remaining l.initial.input) (g.I.Read.remaining l.input) l.bytes.items
