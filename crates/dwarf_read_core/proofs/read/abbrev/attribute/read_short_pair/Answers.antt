use Rattle.dwarf_read_core.proofs.tables.ReadingPairs.{short_pair}
use Rattle.dwarf_read_core.proofs.read.abbrev.attribute.read_short_pair.Goals as goal

pub returns-clause-some : goal.returns-clause-some
returns-clause-some g c =
    let ahead = c.in-Ok.ensures.ok in
    let read = c.in-Ok-read_u8_array in
    rw (c.from.ensures, c.from-2.ensures)
    (short_pair (g.R.Reader.view c.args.input.now) (g.R.Reader.view c.read_u8_array.new.r) read.pair
    (rw ahead at read.ensures.filled) (rw ahead at read.ensures.ok) c.if-pair-ge128.false c.if-pair-ge128-2.false)
