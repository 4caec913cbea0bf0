use Rattle.dwarf_read_core.proofs.contributions.Places.{contribution_placed}
use Rattle.dwarf_read_core.proofs.laws.contributions_are_at_their_offsets.Goals as goal

pub returns : goal.returns
returns g c = contribution_placed c.law.ensures
