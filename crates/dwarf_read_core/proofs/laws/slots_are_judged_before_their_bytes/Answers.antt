use Rattle.dwarf_read_core.proofs.lookups.MissingFields.{address_sized, slot_counted}
use Rattle.dwarf_read_core.proofs.laws.slots_are_judged_before_their_bytes.Goals as goal

pub returns : goal.returns
returns c = record { word = λ greatest section s. slot_counted greatest section s _; address = λ greatest section s. slot_counted greatest section s _; width = address_sized }
