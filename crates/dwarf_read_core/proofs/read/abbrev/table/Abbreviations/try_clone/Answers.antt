use Rattle.dwarf_read_core.proofs.Common.{◌≡◌, empty_of_len, same_from_all_zip, Declaration, arith}
use Rattle.dwarf_read_core.proofs.read.abbrev.table.Abbreviations.try_clone.Goals as goal

same_vec : (c : goal.In_ok-clone-2) → c.in_ok-clone.field-0.items ≡ c.self.inside.vec.items
same_vec c = same_from_all_zip (λ (d e : Declaration). e ≡ d) _ _ c.in_ok-clone.ensures.cases.0 (λ d e same. same)

pub invariant_of-result-2 : goal.invariant_of-result-2
invariant_of-result-2 c = rw (same_vec c, c.in_ok-clone-2.ensures.cases) c.self.invariant

pub returns-clause-ok : goal.returns-clause-ok
returns-clause-ok c = rw (same_vec c, c.in_ok-clone-2.ensures.cases) c.self.view_is

pub returns-then-is_empty-clause-ok : goal.returns-then-is_empty-clause-ok
returns-then-is_empty-clause-ok c = grind (arith, empty_of_len)
