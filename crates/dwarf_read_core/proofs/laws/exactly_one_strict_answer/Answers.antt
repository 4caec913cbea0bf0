use Rattle.dwarf_read_core.proofs.tables.AnswersChange.{strict_answer_changes}
use Rattle.dwarf_read_core.proofs.tables.StrictAnswers.{strict_answer_exactly_one, strict_answer_more}
use Rattle.dwarf_read_core.proofs.laws.exactly_one_strict_answer.Goals as goal

pub returns : goal.returns
returns c = record { one = strict_answer_exactly_one; stable = strict_answer_more; changed = strict_answer_changes }
