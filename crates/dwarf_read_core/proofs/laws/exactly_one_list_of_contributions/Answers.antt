use Rattle.dwarf_read_core.proofs.contributions.Contributions.{contributions_bounded, contributions_exactly_one}
use Rattle.dwarf_read_core.proofs.laws.exactly_one_list_of_contributions.Goals as goal

pub returns-clause-one : goal.returns-clause-one
returns-clause-one g c = contributions_exactly_one c.law.ensures

pub returns-clause-bound : goal.returns-clause-bound
returns-clause-bound g c = contributions_bounded c.law.ensures
