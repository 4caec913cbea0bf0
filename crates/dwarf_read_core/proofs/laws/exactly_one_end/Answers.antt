use Rattle.dwarf_read_core.proofs.tables.TableEnds.{end_after}
use Rattle.dwarf_read_core.proofs.tables.TableFronts.{ends_at_front}
use Rattle.dwarf_read_core.proofs.laws.exactly_one_end.Goals as goal

pub returns-clause-after : goal.returns-clause-after
returns-clause-after c = end_after

pub returns-clause-front : goal.returns-clause-front
returns-clause-front c = ends_at_front
