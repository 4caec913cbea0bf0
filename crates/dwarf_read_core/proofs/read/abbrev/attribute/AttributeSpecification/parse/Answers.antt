use Rattle.dwarf_read_core.proofs.Common.{refl, rules, arith, ◌≡◌, ◌==◌, true, false, implicit_const, value_at, gives_err}
use Rattle.dwarf_read_core.proofs.tables.ReadingNumbers.{number_not_read, number_steps}
use Rattle.dwarf_read_core.proofs.tables.ReadingPairs.{pair-end_stays, specification-of_no_pair, specification-of_pair}
use Rattle.dwarf_read_core.proofs.read.abbrev.attribute.AttributeSpecification.parse.Goals as goal

pub returns-in_err-name-clause-read : goal.returns-in_err-name-clause-read
returns-in_err-name-clause-read g c =
    gives_err _ _ c.from_residual.ensures.1 (λ memory. specification-of_no_pair c.in_err-name.ensures.err)

pub returns-in_err-value-in_default-DW_FORM_implicit_const-clause-read : goal.returns-in_err-value-in_default-DW_FORM_implicit_const-clause-read
unfolding value_at
returns-in_err-value-in_default-DW_FORM_implicit_const-clause-read g c =
    let pair = c.in_ok-name.ensures.ok in
    let h = number_not_read c.in_err-value-in_default-DW_FORM_implicit_const.ensures.err in
    let named : (c.in_ok-name.name == 0) ≡ false = search rules in
    let formed : (c.in_ok-name.form == 0) ≡ false = search rules in
    let implicit : (c.in_ok-name.form == implicit_const) ≡ true = search rules in
    gives_err _ _ c.from_residual-in_err-value-in_default-DW_FORM_implicit_const.ensures.1
    (λ memory. rw (specification-of_pair pair, named, formed, implicit, rw (pair-end_stays pair) at h) refl)

pub returns-in-DW_AT_null-DW_FORM_null-clause-read : goal.returns-in-DW_AT_null-DW_FORM_null-clause-read
returns-in-DW_AT_null-DW_FORM_null-clause-read g c = rw (specification-of_pair c.in_ok-name.ensures.ok) (grind arith)

pub returns-in-DW_AT_null-default-clause-read : goal.returns-in-DW_AT_null-default-clause-read
returns-in-DW_AT_null-default-clause-read g c = rw (specification-of_pair c.in_ok-name.ensures.ok) (grind arith)

pub returns-in_default-DW_FORM_null-clause-read : goal.returns-in_default-DW_FORM_null-clause-read
returns-in_default-DW_FORM_null-clause-read g c = rw (specification-of_pair c.in_ok-name.ensures.ok) (grind arith)

pub returns-in_default-clause-read : goal.returns-in_default-clause-read
unfolding value_at
returns-in_default-clause-read g c = rw (specification-of_pair c.in_ok-name.ensures.ok) (grind arith)

pub returns-in_ok-value-in_default-DW_FORM_implicit_const-clause-read : goal.returns-in_ok-value-in_default-DW_FORM_implicit_const-clause-read
unfolding value_at
returns-in_ok-value-in_default-DW_FORM_implicit_const-clause-read g c =
    rw (specification-of_pair c.in_ok-name.ensures.ok) (grind (arith, number_steps))
