use Rattle.dwarf_read_core.proofs.Common.{refl, rules, ap, arith, Input}
use Rattle.dwarf_read_core.specs.Items.{no_items}
use Rattle.dwarf_read_core.proofs.contributions.ItemLists.{bytes-some}
use Rattle.dwarf_read_core.proofs.contributions.Contributions.{contribution_bound, contribution_first, contribution_error_first, contribution_error_stays, contribution_stays, contribution_takes}
use Rattle.dwarf_read_core.proofs.read.contributions.ContributionHeaderIter.next.Goals as goal

pub returns-in-Ok-clause-first : goal.returns-in-Ok-clause-first
returns-in-Ok-clause-first g c =
    rw (← c.self.view_is) (contribution_first c.law.ensures _ _ _ _ _ (search rules) c.in-Ok.ensures.ok
    (omega (arith, g.met.R.Offset.ReaderOffset.sub_law _ _ _ c.sub-offset.ensures, c.len.ensures))
    (omega (arith, contribution_bound (contribution_takes g.H.HeaderFields.header _ _ _ _ _ c.in-Ok.ensures.ok), c.self.invariant)))

pub returns-in-Ok-clause-stable : goal.returns-in-Ok-clause-stable
returns-in-Ok-clause-stable g c =
    rw (← c.self.view_is) (contribution_stays c.law.ensures _ _ _ _ _ (search rules) c.in-Ok.ensures.ok
    (omega (arith, g.met.R.Offset.ReaderOffset.sub_law _ _ _ c.sub-offset.ensures, c.len.ensures))
    (omega (arith, contribution_bound (contribution_takes g.H.HeaderFields.header _ _ _ _ _ c.in-Ok.ensures.ok), c.self.invariant)))

pub returns-in-Err-clause-first : goal.returns-in-Err-clause-first
returns-in-Err-clause-first g c =
    rw (← c.self.view_is) (contribution_error_first c.law.ensures _ _ _ _ _ (search rules) c.in-Err.ensures.err
    (omega (arith, g.met.R.Offset.ReaderOffset.sub_law _ _ _ c.sub-offset.ensures, c.len.ensures)) _ _
    (ap (λ (i : Input). i.bytes) c.empty.ensures.left))

pub returns-in-Err-clause-stable : goal.returns-in-Err-clause-stable
returns-in-Err-clause-stable g c =
    rw (← c.self.view_is) (contribution_error_stays c.law.ensures _ _ _ _ _ (search rules) c.in-Err.ensures.err
    (omega (arith, g.met.R.Offset.ReaderOffset.sub_law _ _ _ c.sub-offset.ensures, c.len.ensures)))

pub returns-then-is_empty-clause-first : goal.returns-then-is_empty-clause-first
returns-then-is_empty-clause-first g c =
    rw (← c.self.view_is) (no_items (c.if-is_empty.ensures.0 refl), no_items (c.if-is_empty.ensures.0 refl))

pub returns-in-Err-clause-some : goal.returns-in-Err-clause-some
returns-in-Err-clause-some g c = rw (← c.self.view_is) (bytes-some _ (search rules))

pub returns-in-Ok-clause-bound : goal.returns-in-Ok-clause-bound
returns-in-Ok-clause-bound g c = rw (← c.self.view_is) (contribution_bound (contribution_takes g.H.HeaderFields.header _ _ _ _ _ c.in-Ok.ensures.ok))

pub invariant_of-self : goal.invariant_of-self
invariant_of-self g c =
    omega (arith, contribution_bound (contribution_takes g.H.HeaderFields.header _ _ _ _ _ c.in-Ok.ensures.ok), c.self.invariant)
