use Rattle.dwarf_read_c.proofs.Common.{ap, refl, ◌∙◌}
use Rattle.dwarf_read_c.specs.Tables.{measure_of}
use Rattle.dwarf_read_c.proofs.laws.exactly_one_measure.Goals as goal

pub returns : goal.returns
returns c section offset t answer =
    let end = c.exactly_one_end.ensures.one section offset t answer in
    (measure_of t end.0, (end.0, end.1, refl), λ other ends. ends.2 ∙ ap (measure_of t) (end.2 ends.0 ends.1))
