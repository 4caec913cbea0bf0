use Rattle.dwarf_uses.proofs.callers.first_tag.Goals as goal

pub returns-clause-ok : goal.returns-clause-ok
returns-clause-ok c =
    (_, rw c.new-section.ensures.view at c.in_ok-table.ensures.answer, c.tag_of.ensures)
