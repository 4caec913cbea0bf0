use Rattle.dwarf_entry_core.proofs.Skipped.{attributes-skipped}
use Rattle.dwarf_entry_core.proofs.laws.skipping_leaves_what_reading_leaves.Goals as goal

pub returns : goal.returns
returns c = λ greatest e specs old new xs is. attributes-skipped greatest e specs xs old new is
