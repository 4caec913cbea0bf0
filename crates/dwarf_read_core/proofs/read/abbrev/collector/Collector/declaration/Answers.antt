use Rattle.dwarf_read_core.proofs.Common.{arith, ne_eqb, gives_err, Err-no_Ok, coded_at, declared_at, refl}
use Rattle.dwarf_read_core.proofs.tables.AttributeValues.{attributes_valued}
use Rattle.dwarf_read_core.proofs.tables.ReadingNumbers.{number_steps, number_read, number_not_read, end_stays}
use Rattle.dwarf_read_core.proofs.read.abbrev.collector.Collector.declaration.Goals as goal

pub returns-in_err-code-clause-ends : goal.returns-in_err-code-clause-ends
unfolding coded_at
returns-in_err-code-clause-ends g c =
    λ rest e. absurd (Err-no_Ok (rw (number_not_read c.in_err-code.ensures.err) at e))

pub returns-in_err-code-clause-read : goal.returns-in_err-code-clause-read
unfolding coded_at
returns-in_err-code-clause-read g c =
    gives_err _ _ c.from_residual.ensures.1 (λ memory. rw (number_not_read c.in_err-code.ensures.err) refl)

pub returns-then-code-eq0-clause-read : goal.returns-then-code-eq0-clause-read
unfolding coded_at
returns-then-code-eq0-clause-read g c = grind (arith, number_steps)

pub returns-then-code-eq0-clause-same_end : goal.returns-then-code-eq0-clause-same_end
returns-then-code-eq0-clause-same_end g c = end_stays c.in_ok-code.ensures.ok

pub returns-in_err-tag-clause-ends : goal.returns-in_err-tag-clause-ends
unfolding coded_at
returns-in_err-tag-clause-ends g c =
    λ rest none. absurd (let q = rw (number_read _ c.in_ok-code.ensures.ok, ne_eqb _ _ c.if-code-eq0.false) at none in
    grind arith)

pub returns-in_err-tag-clause-read : goal.returns-in_err-tag-clause-read
unfolding coded_at declared_at
returns-in_err-tag-clause-read g c =
    gives_err _ _ c.from_residual-in_err-tag.ensures.1 (λ memory. grind (arith, number_steps))

pub returns-in_err-has_children-clause-ends : goal.returns-in_err-has_children-clause-ends
unfolding coded_at
returns-in_err-has_children-clause-ends g c =
    λ rest none. absurd (let q = rw (number_read _ c.in_ok-code.ensures.ok, ne_eqb _ _ c.if-code-eq0.false) at none in
    grind arith)

pub returns-in_err-has_children-clause-read : goal.returns-in_err-has_children-clause-read
unfolding coded_at declared_at
returns-in_err-has_children-clause-read g c =
    gives_err _ _ c.from_residual-in_err-has_children.ensures.1 (λ memory. grind (arith, number_steps))

pub returns-in_err-parse_attributes-clause-ends : goal.returns-in_err-parse_attributes-clause-ends
unfolding coded_at
returns-in_err-parse_attributes-clause-ends g c =
    λ rest none. absurd (let q = rw (number_read _ c.in_ok-code.ensures.ok, ne_eqb _ _ c.if-code-eq0.false) at none in
    grind arith)

pub returns-in_err-parse_attributes-clause-read : goal.returns-in_err-parse_attributes-clause-read
unfolding coded_at declared_at
returns-in_err-parse_attributes-clause-read g c =
    gives_err _ _ c.from_residual-in_err-parse_attributes.ensures.1 (λ memory. grind (arith, number_steps))

pub returns-in_err-as_slice-clause-ends : goal.returns-in_err-as_slice-clause-ends
unfolding coded_at
returns-in_err-as_slice-clause-ends g c =
    λ rest none. absurd (let q = rw (number_read _ c.in_ok-code.ensures.ok, ne_eqb _ _ c.if-code-eq0.false) at none in
    grind arith)

pub invariant_of-result : goal.invariant_of-result
invariant_of-result g c =
    (grind arith, rw c.in_ok-as_slice.ensures (attributes_valued _ _ _ _ c.in_ok-parse_attributes.ensures.read))

pub returns-clause-read : goal.returns-clause-read
unfolding coded_at declared_at
returns-clause-read g c = grind (arith, number_steps, c.in_ok-as_slice.ensures)

pub returns-clause-same_end : goal.returns-clause-same_end
returns-clause-same_end g c = grind (arith, end_stays c.in_ok-code.ensures.ok)
