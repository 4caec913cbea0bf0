use Rattle.dwarf_read_c.proofs.Common.{arith, common_steps}
use Rattle.dwarf_read_c.proofs.LaidOut.{laid_counts}
use Rattle.dwarf_read_c.proofs.table_rows.TableRows.measure.Goals as goal

pub returns : goal.returns
returns c = grind (arith, common_steps, (laid_counts _ _ _ c.self.invariant))
