use Rattle.dwarf_read_core.proofs.contributions.Offsets.{contribution_at-exactly_one}
use Rattle.dwarf_read_core.proofs.laws.exactly_one_contribution_at_an_offset.Goals as goal

pub returns : goal.returns
returns g c = contribution_at-exactly_one c.law.ensures
