use Rattle.dwarf_entry_core.proofs.Remaining.{left_of-clone}
use Rattle.dwarf_entry_core.proofs.Values.{attribute-is}
use Rattle.dwarf_entry_core.proofs.entries.EntriesRaw.read_attribute.Goals as goal

pub returns-clause-bound : goal.returns-clause-bound
returns-clause-bound g c = left_of-clone (attribute-is _ _ _) _ _ _ _ c.parse_attribute.result c.parse_attribute.ensures.read
