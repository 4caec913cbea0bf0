use Rattle.dwarf_read_core.proofs.cache.NamedOffsets.{named, named_until}
use Rattle.dwarf_read_core.proofs.laws.offsets_are_named_to_their_end.Goals as goal

pub returns : goal.returns
returns c = record { named = named; until = named_until }
