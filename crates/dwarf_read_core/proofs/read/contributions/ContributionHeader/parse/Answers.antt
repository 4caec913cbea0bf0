use Rattle.dwarf_read_core.proofs.Common.{inl, inr, refl}
use Rattle.dwarf_reader_core.proofs.public.Results.{propagated-err}
use Rattle.dwarf_read_core.proofs.contributions.Contributions.{unit_cut_read}
use Rattle.dwarf_read_core.proofs.read.contributions.ContributionHeader.parse.Goals as goal

pub returns-in_err-length-clause-err : goal.returns-in_err-length-clause-err
returns-in_err-length-clause-err g c =
    propagated-err _ _ c.from_residual.ensures.1 (inl (inl c.in_err-length.ensures.err))

pub returns-in_err-unit-clause-err : goal.returns-in_err-unit-clause-err
returns-in_err-unit-clause-err g c =
    propagated-err _ _ c.from_residual-in_err-unit.ensures.1
    (unit_cut_read g.H.HeaderFields.header _ c.in_ok-length.ensures.ok _ c.in_err-unit.ensures.err)

pub returns-in_err-fields-clause-err : goal.returns-in_err-fields-clause-err
returns-in_err-fields-clause-err g c =
    let unit = c.in_ok-unit.ensures in
    propagated-err _ _ c.from_residual-in_err-fields.ensures.1
    (inl (inr (_, _, c.in_ok-length.ensures.ok, inr (_, _, (unit.part, unit.ok), inl (_, c.in_err-fields.ensures.read, refl)))))

pub returns-clause-ok : goal.returns-clause-ok
returns-clause-ok g c =
    let unit = c.in_ok-unit.ensures in
    (_, _, c.in_ok-length.ensures.ok, (_, _, (unit.part, unit.ok), ((_, _), _, (c.in_ok-fields.ensures.read, refl), refl)))
