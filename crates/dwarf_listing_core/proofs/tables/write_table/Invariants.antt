use Rattle.dwarf_listing_core.proofs.Common.{map, flat_map, Appends, declaration_lines}
use Rattle.dwarf_listing_core.proofs.tables.write_table.Given as goal

-- what was written so far is the lines of the declarations so far
abbrev pub invariant-loop-abbreviation : goal.invariant-loop-abbreviation
invariant-loop-abbreviation g l =
    Appends (g.O.Write.contents l.initial.output) (g.O.Write.contents l.output)
    (flat_map declaration_lines (map (λ a. a.now) l.yielded))
