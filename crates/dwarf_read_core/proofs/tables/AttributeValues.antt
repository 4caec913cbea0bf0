-- An attribute that is read has a value exactly if its form has one.
use Rattle.dwarf_read_core.proofs.Common.{arith, ◌≡◌, ℕ, zero, suc, List, Ok, All, Specification, specification_at, value_at, attributes_at, attributes_in}
use Rattle.std.proofs.lemmas.List.Elements.{All-nil, All-cons}
use Rattle.dwarf_read_core.specs.Equality.{HasValueByForm}

-- each specification that is read under a bound has a value exactly if its form has one
valued_by : (n end : ℕ) (bytes : List ℕ) (ss : List Specification) (rest : List ℕ)
    → attributes_at n end bytes ≡ Ok (ss, rest) → All HasValueByForm ss
unfolding attributes_at specification_at value_at
valued_by zero end bytes ss rest is = absurd cc
valued_by (suc n) end bytes ss rest is = grind (arith, (All-nil HasValueByForm), All-cons, (valued_by n end))

-- each attribute that is read has a value exactly if its form has one
pub attributes_valued : (end : ℕ) (bytes : List ℕ) (ss : List Specification) (rest : List ℕ)
    → attributes_in end bytes ≡ Ok (ss, rest) → All HasValueByForm ss
unfolding attributes_in
attributes_valued end bytes ss rest is = valued_by _ end bytes ss rest is
