use Rattle.dwarf_read_core.proofs.contributions.ItemLists.{items-counted}
use Rattle.dwarf_read_core.proofs.contributions.Entries.{string_offset-least, string_offsets_exactly_one}
use Rattle.dwarf_read_core.proofs.laws.exactly_one_list_of_string_offsets.Goals as goal

pub returns : goal.returns
returns c = record {
  one = string_offsets_exactly_one;
  bound = λ greatest entries items. items-counted (string_offset-least greatest entries.width);
}
