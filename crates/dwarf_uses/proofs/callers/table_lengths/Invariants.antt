use Rattle.std.proofs.Common.{map, take}
use Rattle.dwarf_read_core.specs.Sections.{debug_abbrev_reader}
use Rattle.dwarf_uses.specs.Callers.{HaveLengths}
use Rattle.dwarf_uses.proofs.callers.table_lengths.Given as goal

-- each unit so far has its length
abbrev pub invariant-loop-offset : goal.invariant-loop-offset
invariant-loop-offset g l =
    HaveLengths (g.R.Reader.view (debug_abbrev_reader l.section))
    (map (λ unit. g.R.Offset.ReaderOffset.value unit.0) (take l.offset-index l.units)) l.lengths.items
