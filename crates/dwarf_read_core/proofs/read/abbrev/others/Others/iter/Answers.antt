use Rattle.dwarf_read_core.proofs.Common.{arith}
use Rattle.std.proofs.lemmas.List.Elements.{recursion_from_All}
use Rattle.dwarf_read_core.proofs.read.abbrev.others.Others.iter.Goals as goal

pub invariant_of-result : goal.invariant_of-result
invariant_of-result c = grind (arith, recursion_from_All)
