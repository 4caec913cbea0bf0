use Rattle.std.proofs.Common.{length}
use Rattle.dwarf_compare.proofs.entries.entries.Given as goal

abbrev pub decreases-loop-entries : goal.decreases-loop-entries
decreases-loop-entries g l = length (g.R.Reader.view l.entries.input).bytes
