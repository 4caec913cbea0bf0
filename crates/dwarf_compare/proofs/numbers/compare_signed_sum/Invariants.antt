use Rattle.std.proofs.Common.{length}
use Rattle.dwarf_compare.proofs.numbers.compare_signed_sum.Given as goal

abbrev pub decreases-loop-input : goal.decreases-loop-input
decreases-loop-input l = length l.input.slice.now
