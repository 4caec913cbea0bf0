use Rattle.dwarf_read_core.proofs.Common.{inl}
use Rattle.dwarf_read_core.proofs.lookups.Results.{lookup-stays, result-propagated}
use Rattle.dwarf_read_core.specs.Contributions.{seen_as}
use Rattle.dwarf_read_core.proofs.contributions.Offsets.{contribution_at-faulty, contribution_at-found, contribution_at-more}
use Rattle.dwarf_read_core.proofs.read.contributions.ContributionHeader.at.Goals as goal

pub returns-in_err-skip-clause-answer : goal.returns-in_err-skip-clause-answer
returns-in_err-skip-clause-answer g c =
    result-propagated _ c.from_residual-in_err-skip.ensures.1
    (record { new = _; read = inl (rw c.in_ok-input.ensures.ok at c.in_err-skip.ensures.err) })

pub returns-in_err-skip-clause-stable : goal.returns-in_err-skip-clause-stable
returns-in_err-skip-clause-stable g c =
    lookup-stays _ (contribution_at-more c.law.ensures _ _ _) (returns-in_err-skip-clause-answer g c)

pub returns-clause-answer : goal.returns-clause-answer
returns-clause-answer g c =
    let skipped = rw c.in_ok-input.ensures.ok at c.in_ok-skip.ensures.ok in
    let header = g.H.HeaderFields.header in
    let greatest = g.R.Offset.ReaderOffset.GREATEST in
    let seen = seen_as g.H.HeaderFields.said g.R.Reader.view in
    let new = g.R.Reader.view c.parse.new.input in
    record {
      ok = contribution_at-found header greatest _ _ seen new skipped _ c.parse.ensures.ok;
      err = contribution_at-faulty header greatest _ _ seen new skipped _ _ c.parse.ensures.err;
    }

pub returns-clause-stable : goal.returns-clause-stable
returns-clause-stable g c = lookup-stays _ (contribution_at-more c.law.ensures _ _ _) (returns-clause-answer g c)
