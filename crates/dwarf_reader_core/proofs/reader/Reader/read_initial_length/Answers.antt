use Rattle.dwarf_reader_core.proofs.Common.{arith}
use Rattle.dwarf_reader_core.specs.InitialLength.{in_four_bytes, in_eight_bytes, four_cut, reserved, eight_cut, too_great}
use Rattle.dwarf_reader_core.proofs.public.Results.{propagated-err}
use Rattle.dwarf_reader_core.proofs.reader.Reader.read_initial_length.Goals as goal

pub returns-in_err-len-clause-err : goal.returns-in_err-len-clause-err
returns-in_err-len-clause-err g c = propagated-err _ _ c.from_residual.ensures.1 (four_cut c.in_err-len.ensures.err)

pub returns-then-len-lt-FIRST_RESERVED-clause-ok : goal.returns-then-len-lt-FIRST_RESERVED-clause-ok
returns-then-len-lt-FIRST_RESERVED-clause-ok g c =
    rw c.from_u32.ensures (in_four_bytes c.in_ok-len.ensures.ok c.if-len-lt-FIRST_RESERVED.true)

pub returns-then-len-clause-err : goal.returns-then-len-clause-err
returns-then-len-clause-err g c = reserved c.in_ok-len.ensures.ok c.if-len-lt-FIRST_RESERVED.false c.if-len.true

pub returns-in_err-len-2-clause-err : goal.returns-in_err-len-2-clause-err
returns-in_err-len-2-clause-err g c =
    propagated-err _ _ c.from_residual-in_err-len-2.ensures.1
    (eight_cut (rw c.if-len.false at c.in_ok-len.ensures.ok) c.in_err-len-2.ensures.err)

pub returns-in_err-from_u64-clause-err : goal.returns-in_err-from_u64-clause-err
returns-in_err-from_u64-clause-err g c =
    propagated-err _ _ c.from_residual-in_err-from_u64.ensures.1
    (rw c.in_err-from_u64.ensures.0
    (too_great (rw c.if-len.false at c.in_ok-len.ensures.ok) c.in_ok-len-2.ensures.ok
    (omega (arith, c.in_err-from_u64.ensures.1))))

pub returns-clause-ok : goal.returns-clause-ok
returns-clause-ok g c =
    rw (c.in_ok-from_u64.ensures.0)
    (in_eight_bytes (rw c.if-len.false at c.in_ok-len.ensures.ok) c.in_ok-len-2.ensures.ok
    (omega (arith, c.in_ok-from_u64.ensures.1)))
