use Rattle.std.proofs.Common.{rules, ◌≡◌, ◌∙◌, sym}
use Rattle.std.proofs.lemmas.Bool.{eqb-false}
use Rattle.dwarf_read_core.proofs.public.Results.{propagated-is}
use Rattle.dwarf_entry_core.specs.Values.{direct, from_entry, no_number, no_later, indirect}
use Rattle.dwarf_entry_core.proofs.value.parse_form.Goals as goal

pub returns-in_err-read_uleb128_u16-clause-read : goal.returns-in_err-read_uleb128_u16-clause-read
returns-in_err-read_uleb128_u16-clause-read g c =
    let same : c.loop-actual.actual.0 ≡ indirect = search rules in
    rw (propagated-is _ c.from_residual.ensures.1)
    (c.loop-actual.invariant.missed _ _ (no_number same c.in_err-read_uleb128_u16.ensures.err))

pub loop-actual-preserved : goal.loop-actual-preserved
loop-actual-preserved g c =
    let same : c.loop-actual.actual.0 ≡ indirect = search rules in
    record {
      found = λ x new h. c.loop-actual.invariant.found x new (from_entry same c.in_ok-read_uleb128_u16.ensures.ok h);
      missed = λ e new h. c.loop-actual.invariant.missed e new (no_later same c.in_ok-read_uleb128_u16.ensures.ok h);
      order = search rules;
    }

pub returns-clause-read : goal.returns-clause-read
returns-clause-read g c =
    c.loop-actual.invariant.found _ _ (direct (eqb-false _ _ (sym c.eq.ensures ∙ c.loop-actual-test.false)))
