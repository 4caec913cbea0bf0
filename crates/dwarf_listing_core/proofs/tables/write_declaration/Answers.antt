use Rattle.dwarf_listing_core.proofs.Common.{attribute_line, take_more}
use Rattle.dwarf_listing_core.proofs.Written.{text_more}
use Rattle.dwarf_listing_core.proofs.tables.write_declaration.Goals as goal

pub loop-attribute-preserved : goal.loop-attribute-preserved
loop-attribute-preserved g c =
    rw (take_more _ c.loop-attribute.attribute-index c.attribute-item.result c.loop-attribute-test.true)
    (rw (← c.attribute-item.is)
    (text_more attribute_line _ _ _ _ _ c.loop-attribute.invariant c.in_ok-write_attribute.ensures))
