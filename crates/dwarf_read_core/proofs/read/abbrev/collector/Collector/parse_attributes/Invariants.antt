use Rattle.dwarf_read_core.proofs.Common.{◌≡◌, ◌≤◌, ◌++◌, length, take, end_of, attributes_in}
use Rattle.dwarf_read_core.proofs.tables.ReadingAttributes.{with_front}
use Rattle.dwarf_read_core.proofs.read.abbrev.collector.Collector.parse_attributes.Given as goal

-- the specifications so far and those that are read after them are all of the declaration
abbrev pub invariant-attributes : goal.invariant-attributes
invariant-attributes g l =
    let view = g.R.Reader.view in
    let end = end_of (view l.initial.input) in
    let c = l.self-inside in
    record {
      read : with_front (c.overflow.items ++ take l.len c.scratch) (attributes_in end (view l.input).bytes)
          ≡ attributes_in end (view l.initial.input).bytes;
      short : l.len ≤ 16;
      kept : c.len ≤ 16;
      same_end : end_of (view l.input) ≡ end;
    }

abbrev pub decreases-attributes : goal.decreases-attributes
decreases-attributes g l = length (g.R.Reader.view l.input).bytes
