use Rattle.std.proofs.Common.{ap, refl, ◌∙◌}
use Rattle.dwarf_read_core.proofs.public.Consuming.{after-after}
use Rattle.dwarf_read_core.proofs.public.Strings.{found_byte-left}
use Rattle.dwarf_read_core.specs.Input.{after}
use Rattle.dwarf_entry_core.proofs.skip.skip_string.Goals as goal

pub returns-in_err-skip-2-clause-read : goal.returns-in_err-skip-2-clause-read
returns-in_err-skip-2-clause-read g c =
    absurd (found_byte-left c.in_ok-len.ensures.ok c.in_ok-skip.ensures.ok
    (rw c.from_u8.ensures at c.in_err-skip-2.ensures.err.short))

pub returns-clause-read : goal.returns-clause-read
returns-clause-read g c =
    let following = rw c.from_u8.ensures at c.in_ok-skip-2.ensures.ok.left in (
      _,
      refl,
      record {
        len = g.R.Offset.ReaderOffset.value c.in_ok-len.len;
        ends = c.in_ok-len.ensures.ok;
        content = refl;
        left = following ∙ ap (after 1) c.in_ok-skip.ensures.ok.left ∙ after-after 1 _ _;
      },
    )
