use Rattle.dwarf_reader_core.proofs.Common.{unsigned64, unsigned16, signed64}
use Rattle.dwarf_reader_core.proofs.leb.Outcomes.{outcome-exactly_one}
use Rattle.dwarf_reader_core.proofs.laws.exactly_one_outcome.Goals as goal

pub returns : goal.returns
returns c = record {
  unsigned = outcome-exactly_one unsigned64;
  short = outcome-exactly_one unsigned16;
  signed = outcome-exactly_one signed64;
}
