use Rattle.dwarf_read_core.proofs.Common.{arith, inl, inr, refl}
use Rattle.std.proofs.Common.{ne_eqb}
use Rattle.dwarf_reader_core.proofs.public.Headers.{version-known}
use Rattle.dwarf_reader_core.proofs.public.Readings.{required-err, required-ok}
use Rattle.dwarf_reader_core.proofs.public.Results.{propagated-is}
use Rattle.dwarf_read_core.proofs.read.addr.AddressSizeHeaderFields.parse.Goals as goal

pub returns-in_err-segment_size-clause-read : goal.returns-in_err-segment_size-clause-read
returns-in_err-segment_size-clause-read g c =
    let version = version-known c.in_ok-version.ensures.ok c.if-version-ne-VERSION.false in
    rw (propagated-is _ c.from_residual-in_err-segment_size.ensures.1)
    (inr (tt, _, version, inr (_, _, c.in_ok-size.ensures.ok, inl c.in_err-segment_size.ensures.err)))

pub returns-in_default-clause-read : goal.returns-in_default-clause-read
returns-in_default-clause-read g c =
    let version = version-known c.in_ok-version.ensures.ok c.if-version-ne-VERSION.false in
    let other = required-err (ne_eqb c.in_ok-segment_size.segment_size 0 (λ same. omega arith)) in
    inr (tt, _, version, inr (_, _, c.in_ok-size.ensures.ok, inr (_, _, c.in_ok-segment_size.ensures.ok, inl other)))

pub returns-in-0-clause-read : goal.returns-in-0-clause-read
returns-in-0-clause-read g c =
    let version = version-known c.in_ok-version.ensures.ok c.if-version-ne-VERSION.false in
    let flat = required-ok _ (rw c.in-0.is refl) in
    (tt, _, version, (_, _, c.in_ok-size.ensures.ok, (_, _, c.in_ok-segment_size.ensures.ok, (tt, _, flat, refl))))
