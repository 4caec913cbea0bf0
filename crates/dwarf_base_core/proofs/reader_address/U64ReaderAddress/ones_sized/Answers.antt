use Rattle.dwarf_base_core.proofs.Addresses.{all_ones}
use Rattle.dwarf_base_core.proofs.reader_address.U64ReaderAddress.ones_sized.Goals as goal

pub returns : goal.returns
returns c = all_ones c.args.size c.requires.high
