use Rattle.dwarf_read_core.specs.Contributions.{ContributionAtOffset}
use Rattle.dwarf_read_c.proofs.Common.{◌-◌, ◌^◌, StringOffsetsHeaderRead, Err, section_of}
use Rattle.dwarf_read_c.proofs.KnownErrors.{known_str_offset_set}
use Rattle.dwarf_read_c.proofs.sets.dwarf_str_offset_set_0_3.Goals as goal

pub returns-in-Err-clause-rejected : goal.returns-in-Err-clause-rejected
returns-in-Err-clause-rejected c some more =
    let section = section_of c.args.section.now c.args.is_big in
    let absent : ContributionAtOffset StringOffsetsHeaderRead (2 ^ 64 - 1) section c.args.offset (Err c.in-Err.error) =
    rw (c.new-section.ensures.view, c.order.ensures) at c.in-Err.ensures.err in
    record {
      error = c.in-Err.error;
      holds = (absent, known_str_offset_set absent);
      numbered = c.reject.ensures.status;
      reported = c.reject.ensures.reported;
    }
