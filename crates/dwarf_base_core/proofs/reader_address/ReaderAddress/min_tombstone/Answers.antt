use Rattle.std.proofs.Common.{arith}
use Rattle.dwarf_base_core.proofs.Addresses.{tombstone}
use Rattle.dwarf_base_core.proofs.reader_address.ReaderAddress.min_tombstone.Goals as goal

pub returns : goal.returns
returns g c = grind (arith, tombstone)
