use Rattle.dwarf_reader_core.proofs.Common.{◌≡◌}
use Rattle.dwarf_reader_core.proofs.leb.Reading.{Begun}
use Rattle.dwarf_reader_core.proofs.reader.Reader.read_sleb128.Given as goal

-- the loop has consumed as many bytes as the index, all continued, and the byte order is unchanged
abbrev pub invariant-loop-index : goal.invariant-loop-index
invariant-loop-index g l =
    let view = g.Self.Reader.view in
    record {
      begun : Begun (view l.fn.self) l.index (view l.self) l.result;
      order : g.Self.Reader.order l.self ≡ g.Self.Reader.order l.fn.self;
    }
