use Rattle.dwarf_read_core.proofs.laws.exactly_one_header.Goals as goal

pub returns : goal.returns
returns g c = c.law.ensures
