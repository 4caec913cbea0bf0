use Rattle.dwarf_read_core.proofs.tables.DeclarationFronts.{declarations_before_error, declarations_end_once, declarations_of_front}
use Rattle.dwarf_read_core.proofs.laws.declarations_end_at_one_offset.Goals as goal

pub returns-clause-one : goal.returns-clause-one
returns-clause-one c = declarations_end_once

pub returns-clause-front : goal.returns-clause-front
returns-clause-front c = declarations_of_front

pub returns-clause-error : goal.returns-clause-error
returns-clause-error c = declarations_before_error
