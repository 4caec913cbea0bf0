-- Two abbreviations are equal exactly if they are the same declaration.
use Rattle.dwarf_read_core.proofs.Common.{arith, ◌≡◌, true, List, [], ◌∷◌, refl, ◌↔◌, IsTrue, All, All-head, All-tail, Declaration, Specification}
use Rattle.std.specs.Cmp.Lexicographic.{pointwise}
use Rattle.dwarf_read_core.specs.Equality.{HasValueByForm, same_declaration, same_declaration_equiv, same_specification}

-- two specifications that the test finds equal are equal if their values are as their forms say
specification-same : (s t : Specification) → HasValueByForm s → HasValueByForm t → same_specification s t ≡ true → s ≡ t
specification-same s t of_s of_t same = grind arith

-- two lists of specifications that the test finds equal are equal if their values are as their forms say
specifications-same : (ss ts : List Specification) → All HasValueByForm ss → All HasValueByForm ts
    → pointwise same_specification ss ts ≡ true → ss ≡ ts
specifications-same [] [] of_s of_t same = refl
specifications-same [] (t ∷ ts) of_s of_t same = absurd cc
specifications-same (s ∷ ss) [] of_s of_t same = absurd cc
specifications-same (s ∷ ss) (t ∷ ts) of_s of_t same =
    let first = specification-same s t (All-head HasValueByForm s ss of_s) (All-head HasValueByForm t ts of_t) in
    let others = specifications-same ss ts (All-tail HasValueByForm s ss of_s) (All-tail HasValueByForm t ts of_t) in
    grind (arith, first, others)

-- two declarations that the test finds equal are equal if their values are as their forms say
declaration-same_by_parts : (a b : Declaration) → All HasValueByForm a.attributes → All HasValueByForm b.attributes
    → same_declaration a b ≡ true → a ≡ b
declaration-same_by_parts a b of_a of_b same = grind (arith, (specifications-same a.attributes b.attributes of_a of_b))

-- the test finds two declarations equal exactly if they are equal, if their values are as their forms say
pub same_declaration_is_equality : (a b : Declaration) → All HasValueByForm a.attributes
    → All HasValueByForm b.attributes → IsTrue (same_declaration a b) ↔ (a ≡ b)
same_declaration_is_equality a b of_a of_b =
    (declaration-same_by_parts a b of_a of_b, λ e. rw (← e) (same_declaration_equiv.refl a))
