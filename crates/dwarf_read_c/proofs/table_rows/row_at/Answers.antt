use Rattle.dwarf_read_c.specs.declared.rows.DwarfAbbreviation.{DwarfAbbreviation}
use Rattle.dwarf_read_c.proofs.Common.{arith}
use Rattle.dwarf_read_c.proofs.LaidOut.{laid_at, row_again, row_within}
use Rattle.dwarf_read_c.proofs.table_rows.row_at.Goals as goal

-- what is past the rows
abbrev none : DwarfAbbreviation
none = record { code = 0; tag = 0; has_children = 0; first_attribute = 0; attribute_count = 0 }

pub overflow_add-end : goal.overflow_add-end
overflow_add-end c =
    let within = row_within _ _ c.args.place none c.requires.laid c.requires.within in
    grind (arith, within, c.well_formed)

pub offset_bounds-all-row : goal.offset_bounds-all-row
offset_bounds-all-row c =
    let within = row_within _ _ c.args.place none c.requires.laid c.requires.within in
    grind (arith, within, c.well_formed)

pub slice_bounds-result-end : goal.slice_bounds-result-end
slice_bounds-result-end c =
    let within = row_within _ _ c.args.place none c.requires.laid c.requires.within in
    grind (arith, within)

pub returns-clause-row : goal.returns-clause-row
returns-clause-row c = row_again _ _ c.args.place none c.requires.laid c.requires.within

pub returns-clause-attributes : goal.returns-clause-attributes
returns-clause-attributes c =
    let at = laid_at c.args.all.now c.args.rows.now c.args.place none c.requires.within in
    grind (arith, at)
