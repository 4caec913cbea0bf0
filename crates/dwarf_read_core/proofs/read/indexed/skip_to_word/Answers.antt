use Rattle.std.proofs.Common.{◌*◌, ◌<◌, arith, inl}
use Rattle.dwarf_reader_core.proofs.public.Results.{propagated-is}
use Rattle.dwarf_read_core.proofs.lookups.Words.{place_read, too_far_off}
use Rattle.dwarf_read_core.proofs.read.indexed.skip_to_word.Goals as goal

pub returns-in_err-skip : goal.returns-in_err-skip
returns-in_err-skip g c = rw (propagated-is _ c.from_residual.ensures.1) (inl c.in_err-skip.ensures.err)

pub returns-in_err-length_before : goal.returns-in_err-length_before
returns-in_err-length_before g c =
    let offset = g.R.Offset.ReaderOffset in
    let over : offset.GREATEST < offset.value c.args.index * c.word_size-width.result =
    omega (arith, c.in_err-length_before.ensures.1)
    in
    rw (propagated-is _ c.from_residual-in_err-length_before.ensures.1, c.in_err-length_before.ensures.0)
    (too_far_off _ _ c.in_ok-skip.ensures.ok (rw c.word_size-width.ensures at over))

pub returns : goal.returns
returns g c =
    place_read _ _ _ _ c.in_ok-skip.ensures.ok (rw c.word_size-width.ensures at c.in_ok-length_before.ensures.0)
    (omega (arith, c.in_ok-length_before.ensures)) c.skip-2.ensures.ok c.skip-2.ensures.err

pub returns-then-into_u64-words : goal.returns-then-into_u64-words
returns-then-into_u64-words g c =
    let far = rw (
      c.into_u64-then-into_u64-words.ensures.number,
      c.from-then-into_u64-words.ensures,
      c.word_size-width.ensures,
    ) at c.in_ok-from_u64.ensures in
    place_read _ _ _ _ c.in_ok-skip.ensures.ok far.0 (omega (arith, far)) c.skip-then-into_u64-words.ensures.ok
    c.skip-then-into_u64-words.ensures.err
