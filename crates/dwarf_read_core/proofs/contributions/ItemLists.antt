-- Bytes have exactly one list of items, and a call returns the first.
use Rattle.dwarf_read_core.proofs.Common.{common_steps, ◌≡◌, ◌≢◌, ℕ, zero, suc, ◌+◌, ◌<◌, ◌≤◌, List, [], ◌∷◌, ◌++◌, length, Result, Ok, Err, refl, sym, ap, ◌∙◌, arith, sum_by, sum_by-cons, Error, Input, HasOne, ComesFirst, cond, ◌*◌}
use Rattle.std.specs.Prelude.{count_by, is_err, is_ok}
use Rattle.std.specs.List.{filter_map}
use Rattle.std.specs.Result.{result_ok}
use Rattle.std.proofs.Math.Nat.{suc-mul}
use Rattle.dwarf_read_core.specs.Items.{AreItems, no_items, value_first, only_error}

-- bytes that aren't empty are at least one
pub bytes-some : (bytes : List ℕ) → bytes ≢ [] → 1 ≤ length bytes
bytes-some bytes some = grind (arith, common_steps)

-- bytes that aren't empty stay so with more bytes after them
pub bytes-still_some : (bytes following : List ℕ) → bytes ≢ [] → bytes ++ following ≢ []
bytes-still_some [] following some e = some refl
bytes-still_some (x ∷ bytes) following some e = cc

-- of two values with the property that exactly one has, each is the other
pub same_of_one : {A : Type 0} {P : A → Type 0} {x y : A} → HasOne P → P x → P y → x ≡ y
same_of_one {x = x} {y} one p q = one.2 x p ∙ sym (one.2 y q)

module _ {S A : Type 0} (rest : S → Input) (At : S → Result A Error × S → Type 0) where
  -- each value takes at least as many bytes as `count` says
  pub record TakesLeast (count : A → ℕ) : Type 0 where
    pub by : (old new : S) (x : A) → At old (Ok x, new) → length (rest new).bytes + count x ≤ length (rest old).bytes

-- the errors of a list are those of its first item and of the others
errors-cons : {A : Type 0} (r : Result A Error) (items : List (Result A Error))
    → count_by is_err (r ∷ items) ≡ cond (is_err r) 1 0 + count_by is_err items
errors-cons {A} r items = sum_by-cons (λ (r : Result A Error). cond (is_err r) 1 0) r items

module _ {S A : Type 0} {rest : S → Input} {At : S → Result A Error × S → Type 0} where
  -- values and an error consume no more bytes than there are
  pub items-bounded : {count : A → ℕ} → TakesLeast rest At count → {old : S} {items : List (Result A Error)}
      → AreItems rest At old items
      → sum_by count (filter_map result_ok items) + count_by is_err items ≤ length (rest old).bytes
  items-bounded least (no_items e) = omega arith
  items-bounded {count} least (value_first {now = old} {new = new} {x = x} {items = items} some at others) =
      rw (sum_by-cons count x (filter_map result_ok items), errors-cons (Ok x) items)
      (omega (arith, items-bounded least others, least.by old new x at))
  items-bounded least (only_error {now = old} {e = e} some at) =
      rw (errors-cons {A = A} (Err e) []) (omega (arith, bytes-some (rest old).bytes some))

  -- nor do as many values of n bytes each
  pub items-counted : {n : ℕ} → TakesLeast rest At (λ _. n) → {old : S} {items : List (Result A Error)}
      → AreItems rest At old items → count_by is_ok items * n + count_by is_err items ≤ length (rest old).bytes
  items-counted least (no_items e) = omega arith
  items-counted {n} least (value_first {now = old} {new = new} {x = x} {items = items} some at others) =
      let values : count_by is_ok (Ok x ∷ items) * n ≡ count_by is_ok items * n + n =
      rw (sum_by-cons (λ (r : Result A Error). cond (is_ok r) 1 0) (Ok x) items) (grind (arith, suc-mul)) in
      omega (arith, values, errors-cons (Ok x) items, items-counted least others, least.by old new x at)
  items-counted least (only_error {now = old} {e = e} some at) =
      omega (arith, errors-cons {A = A} (Err e) [], bytes-some (rest old).bytes some)

  module _ (one : (old : S) → HasOne (At old)) where
    -- two lists of items of the same bytes are equal
    pub items-same : {old : S} {items others : List (Result A Error)} → AreItems rest At old items
        → AreItems rest At old others → items ≡ others
    items-same (no_items e) (no_items f) = refl
    items-same (no_items e) (value_first some at others) = absurd (some e)
    items-same (no_items e) (only_error some at) = absurd (some e)
    items-same (value_first some at others) (no_items e) = absurd (some e)
    items-same (value_first {new = mid} {x = x} some at others) (value_first {new = new} {x = y} full has after) =
        let both = same_of_one (one _) at has in
        let same : x ≡ y = let first = ap (λ r. r.0) both in cc in
        let left = items-same others (rw (← ap (λ r. r.1) both) at after) in
        λ i. Ok (same i) ∷ left i
    items-same (value_first some at others) (only_error full has) = absurd (let first = ap (λ r. r.0) (same_of_one (one _) at has) in cc)
    items-same (only_error some at) (no_items e) = absurd (some e)
    items-same (only_error some at) (value_first full has others) = absurd (let first = ap (λ r. r.0) (same_of_one (one _) at has) in cc)
    items-same (only_error {e = d} some at) (only_error {e = e} full has) =
        let same : d ≡ e = let first = ap (λ r. r.0) (same_of_one (one _) at has) in cc in
        λ i. Err (same i) ∷ []

    -- an error is the first item, and no others are after it
    pub error-first : {old new left : S} {e : Error} → (rest old).bytes ≢ [] → At old (Err e, new)
        → (rest left).bytes ≡ [] → ComesFirst (AreItems rest At) old (Err e) left
    error-first some at empty =
        (([], no_items empty), λ others has. rw (← items-same (no_items empty) has) (only_error some at))

    -- ---- if each value takes at least one byte
    module _ {count : A → ℕ} (least : TakesLeast rest At count) (positive : (x : A) → 1 ≤ count x) where
      -- bytes have a list of items, by induction on a number above their length
      items-some : (steps : ℕ) (old : S) → length (rest old).bytes < steps
          → (items : List (Result A Error)) × AreItems rest At old items
      items-some zero old few = absurd (omega arith)
      items-some (suc steps) old few = go (items-some steps) (rest old).bytes refl (one old).0 (one old).1
        where
          go : ((s : S) → length (rest s).bytes < steps → (items : List (Result A Error)) × AreItems rest At s items)
              → (bytes : List ℕ) → (rest old).bytes ≡ bytes → (r : Result A Error × S) → At old r
              → (items : List (Result A Error)) × AreItems rest At old items
          go again [] empty r at = ([], no_items empty)
          go again (b ∷ bytes) full (Err e, new) at = (Err e ∷ [], only_error (λ empty. cc) at)
          go again (b ∷ bytes) full (Ok x, new) at =
              let others = again new (omega (arith, least.by old new x at, positive x, few)) in
              (Ok x ∷ others.0, value_first (λ empty. cc) at others.1)

      -- bytes have exactly one list of items
      pub items-exactly_one : (old : S) → HasOne (AreItems rest At old)
      items-exactly_one old =
          let found = items-some (suc (length (rest old).bytes)) old (omega arith) in
          (found.0, found.1, λ others has. items-same has found.1)

      -- a value is the first item, and the others are after it
      pub item-first : {old new : S} {x : A} → (rest old).bytes ≢ [] → At old (Ok x, new)
          → ComesFirst (AreItems rest At) old (Ok x) new
      item-first {new = new} some at =
          let found = items-exactly_one new in
          ((found.0, found.1), λ others has. value_first some at has)

  -- what is known of a first item: bytes remain, and it is read there
  pub first-is : {old : S} {r : Result A Error} {items : List (Result A Error)} → AreItems rest At old (r ∷ items)
      → ((rest old).bytes ≢ []) × (new : S) × At old (r, new)
  first-is (value_first some at others) = (some, _, at)
  first-is (only_error some at) = (some, _, at)

  -- bytes that are empty have no items
  pub items-none : {old : S} → (rest old).bytes ≡ [] → AreItems rest At old []
  items-none empty = no_items empty

  -- where there is no item, there are no bytes
  pub no_first-is : {old : S} → AreItems rest At old [] → (rest old).bytes ≡ []
  no_first-is (no_items empty) = empty
