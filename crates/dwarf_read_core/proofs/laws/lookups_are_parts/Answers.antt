use Rattle.dwarf_read_core.proofs.lookups.Parts.{number_part, range_nested, range_whole, string_part}
use Rattle.dwarf_read_core.proofs.laws.lookups_are_parts.Goals as goal

pub returns : goal.returns
returns c = record {
  whole = range_whole;
  nested = range_nested;
  string = string_part;
  word = λ greatest section s x has. number_part greatest s has.read.2 has.read.3.0;
  address = λ greatest section s x has. number_part greatest s has.read.2 has.read.3.0;
}
