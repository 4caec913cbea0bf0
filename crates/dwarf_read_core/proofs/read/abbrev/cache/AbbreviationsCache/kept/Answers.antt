use Rattle.dwarf_read_core.proofs.Common.{arith, option_map}
use Rattle.dwarf_read_core.proofs.cache.EntriesAsMap.{get-shown}
use Rattle.dwarf_read_core.proofs.read.abbrev.cache.AbbreviationsCache.kept.Goals as goal

pub returns : goal.returns
returns c = grind (arith, get-shown, option_map)
