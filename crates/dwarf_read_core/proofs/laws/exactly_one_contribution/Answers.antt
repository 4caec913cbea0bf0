use Rattle.dwarf_read_core.proofs.contributions.Contributions.{contribution-decided}
use Rattle.dwarf_read_core.proofs.laws.exactly_one_contribution.Goals as goal

pub returns : goal.returns
returns g c = contribution-decided c.law.ensures
