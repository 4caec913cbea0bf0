-- What calls of `next` return is the list that the bytes represent.
use Rattle.std.specs.Iterator.{Yields}
use Rattle.dwarf_read_core.specs.Items.{GivesFirst, StaysFirst}
use Rattle.dwarf_read_core.proofs.Common.{◌≡◌, List, [], ◌∷◌, None, Some, Result, Ok, Err, ℕ, true, inl, inr, subst, sym, CloneRanOutOfMemory, Error, HasOne, IsNotEof}
use Rattle.dwarf_read_core.proofs.contributions.ItemLists.{same_of_one}

-- clones that can't fail don't run out of memory
free_clone : {e : Error} → CloneRanOutOfMemory true e → ⊥
free_clone want = let costs = want.costs in absurd cc

module _ {I A : Type 0} (Represents : I → List (Result A Error) → Type 0) where
  -- calls up to `None` return the items, and nothing remains
  pub yielded-items : (items : List (Result A Error)) (from now left : I)
      → Yields (GivesFirst Represents (λ x. x) true) from items now
      → GivesFirst {X = A} Represents (λ x. x) true now None left → Represents from items × Represents left []
  yielded-items [] from now left same ends = (subst (λ i. Represents i []) (sym same) ends.0, ends.1)
  yielded-items (Ok x ∷ items) from now left (next, first, others) ends =
      let rest = yielded-items items next now left others ends in
      (first.1 items rest.0, rest.1)
  yielded-items (Err e ∷ items) from now left (next, first, others) ends =
      let rest = yielded-items items next now left others ends in
      elim first [ inl comes ↦ (comes.1 items rest.0, rest.1) | inr want ↦ absurd (free_clone want.0) ]

  module _ (with_more : List ℕ → I → I) (old new : I) (more : List ℕ) (others : List (Result A Error))
      (one : HasOne (Represents (with_more more old))) (has : Represents (with_more more old) others) where
    -- a value that stays first is the first item
    pub stays-first : {x : A} → StaysFirst {X = A} Represents (λ x. x) true with_more old (Some (Ok x)) new
        → (rest : List (Result A Error)) × (others ≡ Ok x ∷ rest)
    stays-first stays =
        let first = stays more in
        (first.0.0, same_of_one one has (first.1 first.0.0 first.0.1))

    -- and an error is the only one
    pub error_stays-first : {e : Error} → StaysFirst {X = A} Represents (λ x. x) true with_more old (Some (Err e)) new
        → IsNotEof e → others ≡ Err e ∷ []
    error_stays-first stays settled = elim (stays settled more) [
      | inl only ↦ same_of_one one has only
      | inr want ↦ absurd (free_clone want)
    ]
