use Rattle.dwarf_listing_core.proofs.Common.{take, flat_map, Appends, attribute_line}
use Rattle.dwarf_listing_core.proofs.tables.write_declaration.Given as goal

-- what was written so far is the lines of the attributes so far
abbrev pub invariant-loop-attribute : goal.invariant-loop-attribute
invariant-loop-attribute g l =
    Appends (g.O.Write.contents l.initial.output) (g.O.Write.contents l.output)
    (flat_map attribute_line (take l.attribute-index l.attribute-items))
