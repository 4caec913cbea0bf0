use Rattle.dwarf_read_c.proofs.Common.{arith, common_steps}
use Rattle.dwarf_read_c.proofs.LaidOut.{laid_attributes, laid_counts, laid_rows}
use Rattle.dwarf_read_c.proofs.table_rows.TableRows.fill.Goals as goal

pub slice_bounds-copy_from_slice-end : goal.slice_bounds-copy_from_slice-end
slice_bounds-copy_from_slice-end c = grind (arith, common_steps, (laid_counts _ _ _ c.self.invariant))

pub slice_bounds-copy_from_slice-end-then-is_empty : goal.slice_bounds-copy_from_slice-end-then-is_empty
slice_bounds-copy_from_slice-end-then-is_empty c = grind (arith, common_steps, (laid_counts _ _ _ c.self.invariant))

pub copy_from_slice-requires : goal.copy_from_slice-requires
copy_from_slice-requires c = grind (arith, common_steps, (laid_counts _ _ _ c.self.invariant))

pub slice_bounds-fill_each-end : goal.slice_bounds-fill_each-end
slice_bounds-fill_each-end c = grind (arith, common_steps, (laid_counts _ _ _ c.self.invariant))

pub slice_bounds-fill_each-end-then-is_empty : goal.slice_bounds-fill_each-end-then-is_empty
slice_bounds-fill_each-end-then-is_empty c = grind (arith, common_steps, (laid_counts _ _ _ c.self.invariant))

pub fill_each-requires : goal.fill_each-requires
fill_each-requires c = grind (arith, common_steps, (laid_counts _ _ _ c.self.invariant))

pub returns-then-is_empty-clause-laid : goal.returns-then-is_empty-clause-laid
returns-then-is_empty-clause-laid c =
    let counts = laid_counts _ _ _ c.self.invariant in
    let rising = c.self.invariant.rising (grind arith) in
    grind (arith, common_steps, counts, (laid_rows _ _ c.self.invariant.laid rising))

pub returns-then-is_empty-clause-filled : goal.returns-then-is_empty-clause-filled
returns-then-is_empty-clause-filled c =
    let counts = laid_counts _ _ _ c.self.invariant in
    let rising = c.self.invariant.rising (grind arith) in
    grind (arith, common_steps, counts, (laid_attributes _ _ c.self.invariant.laid rising))
