use Rattle.std.proofs.Common.{◌≤◌, length}
use Rattle.dwarf_compare.proofs.entries.sum_read.Given as goal

abbrev pub decreases-loop-entries : goal.decreases-loop-entries
decreases-loop-entries l = length l.entries.input.slice.now

-- attributes give no bytes back
abbrev pub invariant-loop-spec : goal.invariant-loop-spec
invariant-loop-spec l = length l.entries.input.slice.now ≤ length l.initial.entries.input.slice.now
