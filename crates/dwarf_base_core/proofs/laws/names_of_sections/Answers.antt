use Rattle.dwarf_base_core.proofs.SectionNames.{names_are_distinct}
use Rattle.dwarf_base_core.proofs.laws.names_of_sections.Goals as goal

pub returns : goal.returns
returns c = names_are_distinct
