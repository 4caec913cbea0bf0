use Rattle.dwarf_read_core.proofs.lookups.ErrorsChange.{word_changes}
use Rattle.dwarf_read_core.proofs.lookups.Words.{word_more}
use Rattle.dwarf_read_core.proofs.laws.appended_bytes_change_no_word.Goals as goal

pub returns : goal.returns
returns c =
    record {
      stable = λ greatest section s answer more. word_more greatest section s answer more;
      changed = word_changes;
    }
