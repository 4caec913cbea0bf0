use Rattle.dwarf_read_core.proofs.lookups.Ranges.{ranges_exactly_one}
use Rattle.dwarf_read_core.proofs.lookups.Strings.{strings_exactly_one}
use Rattle.dwarf_read_core.proofs.lookups.Words.{addresses_exactly_one, words_exactly_one}
use Rattle.dwarf_read_core.proofs.laws.exactly_one_lookup.Goals as goal

pub returns : goal.returns
returns c = record {
  string = strings_exactly_one;
  range = ranges_exactly_one;
  word = words_exactly_one;
  address = addresses_exactly_one;
}
