use Rattle.dwarf_reader_core.proofs.Common.{ap, ◌∙◌, after}
use Rattle.dwarf_reader_core.proofs.public.Consuming.{after-after}
use Rattle.dwarf_reader_core.proofs.public.Strings.{found_byte-left}
use Rattle.dwarf_reader_core.proofs.reader.Reader.read_null_terminated_slice.Goals as goal

pub returns-in_err-skip-clause-err : goal.returns-in_err-skip-clause-err
returns-in_err-skip-clause-err g c =
    absurd (found_byte-left c.in_ok-len.ensures.ok c.in_ok-string.ensures.ok
    (rw c.from_u8.ensures at c.in_err-skip.ensures.err.short))

pub returns-in_err-skip-clause-unchanged : goal.returns-in_err-skip-clause-unchanged
returns-in_err-skip-clause-unchanged g c =
    absurd (found_byte-left c.in_ok-len.ensures.ok c.in_ok-string.ensures.ok
    (rw c.from_u8.ensures at c.in_err-skip.ensures.err.short))

pub returns-clause-ok : goal.returns-clause-ok
returns-clause-ok g c =
    let following = rw c.from_u8.ensures at c.in_ok-skip.ensures.ok.left in
    record {
      len = g.Self.Offset.ReaderOffset.value c.in_ok-len.len;
      ends = c.in_ok-len.ensures.ok;
      content = c.in_ok-string.ensures.part;
      left = following ∙ ap (after 1) c.in_ok-string.ensures.ok.left ∙ after-after 1 _ _;
    }
