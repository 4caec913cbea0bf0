use Rattle.dwarf_listing_core.proofs.Common.{◌∙◌, rules}
use Rattle.dwarf_listing_core.proofs.StringLines.{string-becomes_line}
use Rattle.dwarf_listing_core.proofs.lines.string_in_place.Goals as goal

pub returns-clause-answer : goal.returns-clause-answer
returns-clause-answer c =
    let line = string-becomes_line _ _ _ c.in_ok-get_str.ensures.answer.ok in
    let moved = c.drop.ensures.items ∙ c.drain.ensures.kept in
    search (rules, line, moved)
