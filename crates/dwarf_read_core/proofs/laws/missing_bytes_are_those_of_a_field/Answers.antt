use Rattle.dwarf_read_core.proofs.tables.EndFaults.{unterminated_at_end}
use Rattle.dwarf_read_core.proofs.lookups.MissingFields.{table_cut, string_cut, range_cut_in, cut_range, word_is_cut, address_is_cut}
use Rattle.dwarf_read_core.proofs.laws.missing_bytes_are_those_of_a_field.Goals as goal

pub returns : goal.returns
returns c = record {
  table = table_cut;
  strict = unterminated_at_end;
  string = string_cut;
  range = λ section offset size e. (range_cut_in section offset size e, cut_range section offset size e);
  word = word_is_cut;
  address = address_is_cut;
}
