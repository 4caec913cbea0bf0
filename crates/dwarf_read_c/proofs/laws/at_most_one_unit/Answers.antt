use Rattle.dwarf_read_c.proofs.OneUnit.{one_unit}
use Rattle.dwarf_read_c.proofs.laws.at_most_one_unit.Goals as goal

pub returns-clause-info : goal.returns-clause-info
returns-clause-info c section offset a b first second =
    one_unit (c.exactly_one_contribution_at_an_offset.ensures _ section offset) first second

pub returns-clause-types : goal.returns-clause-types
returns-clause-types c section offset a b first second =
    one_unit (c.exactly_one_contribution_at_an_offset-2.ensures _ section offset) first second
