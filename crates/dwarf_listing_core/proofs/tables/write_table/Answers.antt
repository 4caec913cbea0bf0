use Rattle.dwarf_listing_core.proofs.Common.{declaration_lines}
use Rattle.std.proofs.lemmas.List.{map_push}
use Rattle.dwarf_listing_core.proofs.Written.{text_more}
use Rattle.dwarf_listing_core.proofs.tables.write_table.Goals as goal

pub loop-abbreviation-preserved : goal.loop-abbreviation-preserved
loop-abbreviation-preserved g c =
    rw (map_push (λ a. a.now) c.loop-abbreviation.yielded c.in-Some.abbreviation)
    (text_more declaration_lines _ _ _ _ _ c.loop-abbreviation.invariant c.in_ok-write_declaration.ensures)
