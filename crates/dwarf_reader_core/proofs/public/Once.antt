-- Exactly one value has a property, by cases.
use Rattle.dwarf_reader_core.proofs.Common.{◌≡◌, ◌≢◌, ℕ, ◌<◌, ◌≤◌, inl, inr, cases_lt, HasOne}
use Rattle.std.proofs.lemmas.Bool.{cases_eq}

-- exactly one value has a property if it is x where m < n, and elsewhere there is exactly one
pub one_unless : {A : Type 0} {Is : A → Type 0} (m n : ℕ) (x : A) → (m < n → Is x)
    → (m < n → (other : A) → Is other → other ≡ x) → (n ≤ m → HasOne Is) → HasOne Is
one_unless m n x below only above = elim (cases_lt m n) [ inl h ↦ (x, below h, only h) | inr h ↦ above h ]

-- exactly one value has a property if there is exactly one whether two numbers are equal or not
pub one_by_equality : {A : Type 0} {Is : A → Type 0} (m n : ℕ) → (m ≡ n → HasOne Is) → (m ≢ n → HasOne Is) → HasOne Is
one_by_equality m n same other = elim (cases_eq m n) [ inl h ↦ same h | inr h ↦ other h ]
