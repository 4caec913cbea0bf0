-- `borrow` is called once, with the section's data, and the new section holds what it returned.
use Rattle.dwarf_read_core.proofs.Common.{sym, called_at}
use Rattle.dwarf_read_core.proofs.read.abbrev.DebugAbbrev.borrow.Goals as goal

pub returns : goal.returns
returns g c = (_, called_at g.F.FnMut c.borrow.ensures (sym c.into.ensures))
