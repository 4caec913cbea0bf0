use Rattle.dwarf_read_core.proofs.lookups.Strings.{string-stays}
use Rattle.dwarf_read_core.proofs.read.str.DebugStr.get_str.Goals as goal

pub returns-clause-stable : goal.returns-clause-stable
returns-clause-stable g c = string-stays c.string_at.ensures.answer
