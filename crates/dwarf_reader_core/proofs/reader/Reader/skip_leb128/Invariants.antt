use Rattle.dwarf_reader_core.proofs.Common.{◌≡◌, ℕ, length}
use Rattle.dwarf_reader_core.proofs.leb.Reading.{Begun}
use Rattle.dwarf_reader_core.proofs.reader.Reader.skip_leb128.Given as goal

-- the loop has consumed some bytes, all continued, and the byte order is unchanged
abbrev pub invariant-loop-byte : goal.invariant-loop-byte
invariant-loop-byte g l =
    let view = g.Self.Reader.view in
    record {
      begun : (k : ℕ) × (worth : ℕ) × Begun (view l.fn.self) k (view l.self) worth;
      order : g.Self.Reader.order l.self ≡ g.Self.Reader.order l.fn.self;
    }

abbrev pub decreases-loop-byte : goal.decreases-loop-byte
decreases-loop-byte g l = length (g.Self.Reader.view l.self).bytes
