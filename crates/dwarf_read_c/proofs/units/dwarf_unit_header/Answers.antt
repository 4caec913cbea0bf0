use Rattle.dwarf_read_core.specs.Contributions.{ContributionAtOffset}
use Rattle.dwarf_read_c.specs.Units.{header_in}
use Rattle.dwarf_read_c.proofs.Common.{◌-◌, ◌^◌, Err, section_of}
use Rattle.dwarf_read_c.proofs.KnownErrors.{known_unit}
use Rattle.dwarf_read_c.proofs.units.dwarf_unit_header.Goals.{then-is_types, else-is_types}
use Rattle.dwarf_read_c.proofs.units.dwarf_unit_header.Goals as goal

pub returns-in-Err-clause-rejected : goal.returns-in-Err-clause-rejected
returns-in-Err-clause-rejected c some more =
    let section = section_of c.args.section.now c.args.is_big in
    let seen = c.new-section.ensures.view in
    let absent : ContributionAtOffset (header_in c.args.is_types) (2 ^ 64 - 1) section c.args.offset (Err c.in-Err.error) =
    elim c.if-is_types.branch [
      | then-is_types w ↦ rw w.if-is_types.true
          (rw (seen, c.order.ensures, ← w.found-is, c.in-Err.is) at w.unit_at-found.ensures.err)
      | else-is_types w ↦ rw w.if-is_types.false
          (rw (seen, c.order.ensures, ← w.found-is, c.in-Err.is) at w.unit_at-found-else-is_types.ensures.err)
    ] in
    record {
      error = c.in-Err.error;
      holds = (absent, known_unit c.args.is_types absent);
      numbered = c.reject.ensures.status;
      reported = c.reject.ensures.reported;
    }
