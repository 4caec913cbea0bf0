use Rattle.dwarf_read_core.proofs.Common.{arith}
use Rattle.dwarf_read_core.proofs.cache.FaithfulToSection.{kept_answer}
use Rattle.dwarf_read_core.proofs.read.abbrev.cache.AbbreviationsCache.get.Goals as goal

pub returns-in_ok-clone-in-Some-Ok-clause-faithful : goal.returns-in_ok-clone-in-Some-Ok-clause-faithful
returns-in_ok-clone-in-Some-Ok-clause-faithful g c = grind (arith, kept_answer)

pub returns-in-Some-Err-clause-faithful : goal.returns-in-Some-Err-clause-faithful
returns-in-Some-Err-clause-faithful g c = grind (arith, kept_answer)
