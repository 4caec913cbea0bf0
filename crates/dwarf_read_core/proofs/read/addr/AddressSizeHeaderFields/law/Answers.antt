use Rattle.dwarf_reader_core.proofs.public.Headers.{address_header}
use Rattle.dwarf_read_core.proofs.read.addr.AddressSizeHeaderFields.law.Goals as goal

pub returns : goal.returns
returns g c = address_header
