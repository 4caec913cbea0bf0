use Rattle.std.proofs.Common.{arith, inl}
use Rattle.dwarf_reader_core.proofs.public.Results.{propagated-is}
use Rattle.dwarf_read_core.proofs.lookups.Words.{place_read, too_far_off}
use Rattle.dwarf_read_core.proofs.read.indexed.skip_to_index.Goals as goal

pub returns-in_err-skip : goal.returns-in_err-skip
returns-in_err-skip g c = rw (propagated-is _ c.from_residual.ensures.1) (inl c.in_err-skip.ensures.err)

pub returns-in_err-length_before : goal.returns-in_err-length_before
returns-in_err-length_before g c =
    rw (propagated-is _ c.from_residual-in_err-length_before.ensures.1, c.in_err-length_before.ensures.0)
    (too_far_off _ _ c.in_ok-skip.ensures.ok (omega (arith, c.in_err-length_before.ensures.1)))

pub returns : goal.returns
returns g c =
    place_read _ _ _ _ c.in_ok-skip.ensures.ok c.in_ok-length_before.ensures.0
    (omega (arith, c.in_ok-length_before.ensures)) c.skip-2.ensures.ok c.skip-2.ensures.err
