use Rattle.dwarf_entry_core.proofs.EntryLists.{entries-one}
use Rattle.dwarf_entry_core.proofs.laws.exactly_one_list_of_entries.Goals as goal

pub returns : goal.returns
returns c = entries-one
