use Rattle.dwarf_listing_core.proofs.Common.{◌≡◌, ◌≤◌, ◌++◌, drop, false, length, digits_onto}
use Rattle.dwarf_read_core.specs.ErrorText.{hexadecimal}
use Rattle.dwarf_listing_core.proofs.sets.put_hexadecimal.Given as goal

-- the digits of the rest, before those that were put, are the digits of the number
abbrev pub invariant-loop-start : goal.invariant-loop-start
invariant-loop-start l =
    (l.start ≤ 16) × (length l.line ≡ 17)
    × (digits_onto l.start 16 false l.rest (drop l.start l.line) ≡ hexadecimal l.fn.number ++ drop 16 l.initial.line)

abbrev pub decreases-loop-start : goal.decreases-loop-start
decreases-loop-start l = l.start
