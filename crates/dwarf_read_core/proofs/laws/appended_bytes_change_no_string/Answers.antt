use Rattle.dwarf_read_core.proofs.lookups.ErrorsChange.{string_error_changes}
use Rattle.dwarf_read_core.proofs.lookups.Strings.{string_more}
use Rattle.dwarf_read_core.proofs.laws.appended_bytes_change_no_string.Goals as goal

pub returns : goal.returns
returns c =
    record { stable = string_more; changed = string_error_changes }
