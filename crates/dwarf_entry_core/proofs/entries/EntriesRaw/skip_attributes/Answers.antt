use Rattle.dwarf_entry_core.proofs.Remaining.{left_of-call}
use Rattle.dwarf_entry_core.proofs.Skipped.{attributes_skipped-is}
use Rattle.dwarf_entry_core.proofs.entries.EntriesRaw.skip_attributes.Goals as goal

pub returns-clause-bound : goal.returns-clause-bound
returns-clause-bound g c = left_of-call (attributes_skipped-is _ _ _) _ _ _ c.skip_values.result c.skip_values.ensures.read
