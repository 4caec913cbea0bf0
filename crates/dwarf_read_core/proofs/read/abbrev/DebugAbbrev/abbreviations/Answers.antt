use Rattle.dwarf_read_core.proofs.Common.{arith, Ok}
use Rattle.dwarf_read_core.proofs.tables.AppendedBytes.{returned_stays}
use Rattle.dwarf_read_core.proofs.read.abbrev.DebugAbbrev.abbreviations.Goals as goal

pub returns-in_err-abbreviations-clause-stable : goal.returns-in_err-abbreviations-clause-stable
returns-in_err-abbreviations-clause-stable g c = grind (arith, returned_stays)

pub returns-clause-stable : goal.returns-clause-stable
returns-clause-stable g c =
    returned_stays (Ok c.in_ok-abbreviations.abbreviations) _ _ c.in_ok-abbreviations.ensures.answer
