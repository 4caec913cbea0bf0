use Rattle.std.proofs.Common.{arith}
use Rattle.dwarf_compare.proofs.single.compare_grown.Goals as goal

pub returns-in-Ok-clause-read : goal.returns-in-Ok-clause-read
returns-in-Ok-clause-read c = λ _. (_, c.in-Ok.ensures, grind arith)
