-- What has exactly one value has exactly one text.
use Rattle.dwarf_listing_core.proofs.Common.{◌≡◌, List, ℕ, Result, Ok, Err, refl, ap, ◌∙◌, Error, HasOne, Joins, in_front, ListsBy}

-- there is exactly one image if there is exactly one value
pub one_image : {A B : Type 0} {Is : A → Type 0} {Of : B → Type 0} (f : A → B) → HasOne Is → ((a : A) → Is a → Of (f a))
    → ((b : B) → Of b → (a : A) × Is a × (b ≡ f a)) → HasOne Of
one_image f has to from = (f has.0, to has.0 has.1, λ other of. let h = from other of in h.2 ∙ ap f (has.2 h.0 h.1))

-- there is exactly one thing after a value if there is exactly one value, and one thing after each value
pub one_after : {A B : Type 0} {Is : A → Type 0} {Of : A → B → Type 0} → HasOne Is → ((a : A) → Is a → HasOne (Of a))
    → HasOne (λ (b : B). (a : A) × Is a × Of a b)
one_after has following =
    let one = following has.0 has.1 in
    (one.0, (has.0, has.1, one.1), λ other h. one.2 other (rw (has.2 h.0 h.1) at h.2))

-- a text or an error is joined in exactly one way if what is after it is listed in exactly one way
pub one_joined : {Lists : Result (List ℕ) Error → Type 0} (own : Result (List ℕ) Error) → HasOne Lists
    → HasOne (Joins own Lists)
one_joined (Ok text) has = one_image (in_front text) has (λ rest lists. (rest, lists, refl)) (λ listed h. h)
one_joined (Err e) has = (Err e, refl, λ other h. h)

-- what is listed of a value, or the error
listed_of_result : {A B : Type 0} → (A → B) → Result A Error → Result B Error
listed_of_result listed_of (Ok value) = Ok (listed_of value)
listed_of_result listed_of (Err e) = Err e

-- of a section that has exactly one value or error exactly one thing is listed, or one error
pub one_text_by : {A B : Type 0} (listed_of : A → B) (Is : Result A Error → Type 0) → HasOne Is
    → HasOne (ListsBy listed_of Is)
unfolding listed_of_result
one_text_by {A} {B} listed_of Is has = one_image (listed_of_result listed_of) has to from
  where
    to : (answer : Result A Error) → Is answer → ListsBy listed_of Is (listed_of_result listed_of answer)
    to (Ok value) answers = (value, answers, refl)
    to (Err e) answers = answers

    from : (listed : Result B Error) → ListsBy listed_of Is listed
        → (answer : Result A Error) × Is answer × (listed ≡ listed_of_result listed_of answer)
    from (Ok found) h = (Ok h.0, h.1, λ i. Ok (h.2 i))
    from (Err e) h = (Err e, h, refl)
