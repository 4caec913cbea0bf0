use Rattle.dwarf_reader_core.proofs.public.Consuming.{number_taken}
use Rattle.dwarf_reader_core.proofs.reader.Reader.read_u128.Goals as goal

pub returns-clause-ok : goal.returns-clause-ok
returns-clause-ok g c =
    number_taken 16 _ _ _ _ _ c.in_ok-read_slice.ensures.ok c.in_ok-read_slice.ensures.filled
    c.endian.ensures.is_big c.read_u128.ensures
