use Rattle.dwarf_read_core.proofs.contributions.Entries.{address_at, addresses_counted, string_offset_at}
use Rattle.dwarf_read_core.proofs.laws.entries_are_numbers.Goals as goal

pub returns : goal.returns
returns c = record { address = address_at; string_offset = string_offset_at; counted = addresses_counted }
