use Rattle.dwarf_read_core.proofs.tables.AnswersChange.{answer_changes}
use Rattle.dwarf_read_core.proofs.tables.AppendedBytes.{answer_more}
use Rattle.dwarf_read_core.proofs.laws.appended_bytes_change_nothing.Goals as goal

pub returns : goal.returns
returns c = record { stable = λ section more offset answer. answer_more more; changed = answer_changes }
