use Rattle.dwarf_read_core.proofs.contributions.ItemLists.{items-counted}
use Rattle.dwarf_read_core.proofs.contributions.Entries.{address-least, addresses_exactly_one}
use Rattle.dwarf_read_core.proofs.laws.exactly_one_list_of_addresses.Goals as goal

pub returns : goal.returns
returns c = record { one = addresses_exactly_one; bound = λ entries items. items-counted (address-least entries.width) }
