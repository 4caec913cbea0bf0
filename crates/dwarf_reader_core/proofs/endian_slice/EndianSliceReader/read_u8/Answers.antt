use Rattle.dwarf_reader_core.proofs.Common.{◌<◌, arith, All-tail}
use Rattle.dwarf_reader_core.proofs.endian_slice.EndianSliceReader.read_u8.Goals as goal

pub invariant_of-self : goal.invariant_of-self
invariant_of-self g c =
    let parts = c.in-Some.ensures.cases in
    record {
      starts = omega (arith, parts.1, c.args.self.now.starts);
      ends = c.args.self.now.ends;
      bytes = All-tail (λ b. b < 256) c.in-Some.byte.now _ (rw (parts.0) at c.args.self.now.bytes);
    }
