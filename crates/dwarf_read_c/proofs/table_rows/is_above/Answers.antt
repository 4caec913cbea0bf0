use Rattle.dwarf_read_c.proofs.Common.{arith}
use Rattle.dwarf_read_c.proofs.RisingCodes.{last-code-of-row}
use Rattle.dwarf_read_c.proofs.table_rows.is_above.Goals as goal

pub returns-in-Some : goal.returns-in-Some
returns-in-Some c =
    let row = last-code-of-row 0 c.args.rows.now c.in-Some.last.now (grind (arith, c.in-Some.last-is)) in
    grind (arith, row)
