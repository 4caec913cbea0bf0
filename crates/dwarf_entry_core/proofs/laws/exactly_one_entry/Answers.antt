use Rattle.dwarf_entry_core.proofs.Skipped.{attributes_skipped-is}
use Rattle.dwarf_entry_core.proofs.Values.{attribute-is, attributes-is, entry-is}
use Rattle.dwarf_entry_core.proofs.laws.exactly_one_entry.Goals as goal

pub returns-clause-attribute : goal.returns-clause-attribute
returns-clause-attribute c = attribute-is

pub returns-clause-attributes : goal.returns-clause-attributes
returns-clause-attributes c = attributes-is

pub returns-clause-skipped : goal.returns-clause-skipped
returns-clause-skipped c = attributes_skipped-is

pub returns-clause-entry : goal.returns-clause-entry
returns-clause-entry c = entry-is
