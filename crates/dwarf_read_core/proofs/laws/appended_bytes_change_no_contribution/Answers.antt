use Rattle.dwarf_read_core.proofs.contributions.Offsets.{contribution_at-more}
use Rattle.dwarf_read_core.proofs.contributions.Contributions.{contribution_error_more, contribution_more}
use Rattle.dwarf_read_core.proofs.laws.appended_bytes_change_no_contribution.Goals as goal

pub returns-clause-contribution : goal.returns-clause-contribution
returns-clause-contribution g c = contribution_more c.law.ensures

pub returns-clause-error : goal.returns-clause-error
returns-clause-error g c = contribution_error_more c.law.ensures

pub returns-clause-at : goal.returns-clause-at
returns-clause-at g c greatest section offset answer more at settled =
    contribution_at-more c.law.ensures greatest section offset more answer at settled
