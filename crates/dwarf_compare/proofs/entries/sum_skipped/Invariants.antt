use Rattle.std.proofs.Common.{length}
use Rattle.dwarf_compare.proofs.entries.sum_skipped.Given as goal

abbrev pub decreases-loop-entries : goal.decreases-loop-entries
decreases-loop-entries l = length l.entries.input.slice.now
