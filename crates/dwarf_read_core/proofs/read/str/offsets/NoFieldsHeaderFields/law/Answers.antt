use Rattle.dwarf_reader_core.proofs.public.Headers.{string_offsets_header}
use Rattle.dwarf_read_core.proofs.read.str.offsets.NoFieldsHeaderFields.law.Goals as goal

pub returns : goal.returns
returns g c = string_offsets_header
