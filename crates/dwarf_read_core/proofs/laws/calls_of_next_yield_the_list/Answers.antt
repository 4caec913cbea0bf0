use Rattle.dwarf_read_core.specs.Contributions.{RepresentsContributions, followed_remaining}
use Rattle.dwarf_read_core.proofs.contributions.CallsOfNext.{error_stays-first, stays-first, yielded-items}
use Rattle.dwarf_read_core.proofs.contributions.Contributions.{contributions_exactly_one}
use Rattle.dwarf_read_core.proofs.laws.calls_of_next_yield_the_list.Goals as goal

pub returns : goal.returns
returns g c = record {
  items = λ greatest from left items run.
      yielded-items (RepresentsContributions g.H.HeaderFields.header greatest) items from run.0 left run.1 run.2;
  stays = λ greatest old new s more others stays has.
      stays-first (RepresentsContributions g.H.HeaderFields.header greatest) followed_remaining old new more others
      (contributions_exactly_one c.law.ensures greatest _) has stays;
  error_stays = λ greatest old new e more others stays settled has.
      error_stays-first (RepresentsContributions g.H.HeaderFields.header greatest) followed_remaining old new more others
      (contributions_exactly_one c.law.ensures greatest _) has stays settled;
}
