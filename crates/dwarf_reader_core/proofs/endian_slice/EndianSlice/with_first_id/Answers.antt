use Rattle.dwarf_reader_core.proofs.Common.{rules, arith}
use Rattle.std.proofs.lemmas.Grind.{get_or_default_zero}
use Rattle.dwarf_reader_core.proofs.endian_slice.EndianSlice.with_first_id.Goals as goal

pub overflow_add-result : goal.overflow_add-result
overflow_add-result g c = omega arith

pub invariant_of-result : goal.invariant_of-result
invariant_of-result g c = record {
  starts = omega arith;
  ends = search rules;
  bytes = grind (arith, get_or_default_zero);
}
