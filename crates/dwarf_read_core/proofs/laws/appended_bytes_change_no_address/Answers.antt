use Rattle.dwarf_read_core.proofs.lookups.ErrorsChange.{address_changes}
use Rattle.dwarf_read_core.proofs.lookups.Words.{address_more}
use Rattle.dwarf_read_core.proofs.laws.appended_bytes_change_no_address.Goals as goal

pub returns : goal.returns
returns c =
    record {
      stable = λ greatest section s answer more. address_more greatest section s answer more;
      changed = address_changes;
    }
