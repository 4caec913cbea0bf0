use Rattle.dwarf_base_core.proofs.Addresses.{masked}
use Rattle.dwarf_base_core.proofs.reader_address.U64ReaderAddress.wrapping_add_sized.Goals as goal

pub returns : goal.returns
returns c = rw c.ones_sized.ensures (masked _ c.args.size c.requires.high)
