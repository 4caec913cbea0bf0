-- Which offsets are named by an iterator over a list.
use Rattle.dwarf_read_core.proofs.Common.{◌≡◌, ◌≢◌, ◌↔◌, ◌∙◌, ℕ, List, [], ◌∷◌, ◌++◌, map, Option, Some, None, Result, Ok, Err, refl, sym, ap, arith, append-nil, Error, OutOfMemory}
use Rattle.std.specs.Iterator.{YieldsFirst, Yields}
use Rattle.dwarf_read_core.specs.Cache.{EndsItems, NamesOffsets}

-- what the iterator gives
abbrev Item : Type 0
Item = Result ℕ Error

-- numbers, each as an item
abbrev items_of : List ℕ → List Item
items_of numbers = map (λ n. Ok n) numbers

-- one call after the other
abbrev Steps : List Item → Option Item → List Item → Type 0
Steps = YieldsFirst (λ rest. rest)

-- calls that gave items gave the first of the list
given_first : (start : List Item) (items : List ℕ) (left : List Item) → Yields Steps start (items_of items) left
    → start ≡ items_of items ++ left
given_first start [] left same = same
given_first start (n ∷ items) left (rest, first, others) =
    first ∙ ap (λ tail. Ok n ∷ tail) (given_first rest items left others)

-- lists of items without an error are equal only if their numbers are
numbers-same : (numbers items : List ℕ) → items_of numbers ≡ items_of items ++ [] → items ≡ numbers
numbers-same [] [] same = refl
numbers-same [] (m ∷ items) same = absurd cc
numbers-same (n ∷ numbers) [] same = absurd cc
numbers-same (n ∷ numbers) (m ∷ items) same =
    let first : m ≡ n = grind arith in
    let tails : items_of numbers ≡ items_of items ++ [] = cc in
    let rest = numbers-same numbers items tails in cc

-- a list of numbers has no error
error-absent : (numbers items : List ℕ) (e : Error) (left : List Item) → items_of numbers ≡ items_of items ++ Err e ∷ left
    → ⊥
error-absent [] [] e left same = absurd cc
error-absent [] (m ∷ items) e left same = absurd cc
error-absent (n ∷ numbers) [] e left same = grind arith
error-absent (n ∷ numbers) (m ∷ items) e left same =
    let tails : items_of numbers ≡ items_of items ++ Err e ∷ left = cc in error-absent numbers items e left tails

-- with the first error the numbers before it are equal
until-same : (numbers items : List ℕ) (e f : Error) (rest left : List Item)
    → items_of numbers ++ Err e ∷ rest ≡ items_of items ++ Err f ∷ left → (items ≡ numbers) × (e ≡ f)
until-same [] [] e f rest left same = (refl, grind arith)
until-same [] (m ∷ items) e f rest left same = absurd (grind arith)
until-same (n ∷ numbers) [] e f rest left same = absurd (grind arith)
until-same (n ∷ numbers) (m ∷ items) e f rest left same =
    let first : m ≡ n = grind arith in
    let tails : items_of numbers ++ Err e ∷ rest ≡ items_of items ++ Err f ∷ left = cc in
    let others = until-same numbers items e f rest left tails in
    let numbers_are = others.0 in (cc, others.1)

-- what a call leaves of numbers that it doesn't go past
ended : (numbers items : List ℕ) (last : Option Item) (left rest : List Item)
    → items_of numbers ≡ items_of items ++ rest → Steps rest last left → EndsItems last → items ≡ numbers
ended numbers items None left rest same ends is =
    numbers-same numbers items (same ∙ ap (λ others. items_of items ++ others) ends.0)
ended numbers items (Some (Ok n)) left rest same ends is = absurd is
ended numbers items (Some (Err e)) left rest same ends is =
    absurd (error-absent numbers items e left (same ∙ ap (λ others. items_of items ++ others) ends))

-- a list of numbers and an error ends with an error
not_ended : (numbers items : List ℕ) (e : Error) (others : List Item)
    → items_of numbers ++ Err e ∷ others ≡ items_of items ++ [] → ⊥
not_ended [] [] e others same = absurd cc
not_ended [] (m ∷ items) e others same = grind arith
not_ended (n ∷ numbers) [] e others same = absurd cc
not_ended (n ∷ numbers) (m ∷ items) e others same =
    let tails : items_of numbers ++ Err e ∷ others ≡ items_of items ++ [] = cc in
    not_ended numbers items e others tails

-- what a call leaves of numbers and an error that it doesn't go past
ended_until : (numbers items : List ℕ) (e : Error) (others : List Item) (last : Option Item) (left rest : List Item)
    → items_of numbers ++ Err e ∷ others ≡ items_of items ++ rest → Steps rest last left → EndsItems last
    → (e ≢ OutOfMemory) × (items ≡ numbers)
ended_until numbers items e others None left rest same ends is =
    absurd (not_ended numbers items e others (same ∙ ap (λ more. items_of items ++ more) ends.0))
ended_until numbers items e others (Some (Ok n)) left rest same ends is = absurd is
ended_until numbers items e others (Some (Err f)) left rest same ends is =
    let both = until-same numbers items e f others left (same ∙ ap (λ more. items_of items ++ more) ends) in
    (λ memory. is (sym both.1 ∙ memory), both.0)

-- a map that changes nothing
map_same : (numbers : List ℕ) → map (λ (n : ℕ). n) numbers ≡ numbers
map_same [] = refl
map_same (n ∷ numbers) = ap (λ tail. n ∷ tail) (map_same numbers)

-- calls give the numbers before others
gives_numbers : (numbers : List ℕ) (rest : List Item) → Yields Steps (items_of numbers ++ rest) (items_of numbers) rest
gives_numbers [] rest = refl
gives_numbers (n ∷ numbers) rest = (items_of numbers ++ rest, refl, gives_numbers numbers rest)

-- the numbers before the end, or before an error that isn't `OutOfMemory`, are named
names_numbers : (numbers : List ℕ) (last : Option Item) (left rest : List Item) → Steps rest last left → EndsItems last
    → NamesOffsets Steps (λ n. n) (items_of numbers ++ rest) numbers
names_numbers numbers last left rest step ends = record {
  items = numbers;
  given = record { last = last; left = left; given = (rest, gives_numbers numbers rest, step); ends = ends };
  numbers = sym (map_same numbers);
}

-- exactly all numbers of a list are named
pub named : (numbers offsets : List ℕ)
    → NamesOffsets Steps (λ n. n) (items_of numbers) offsets ↔ (offsets ≡ numbers)
named numbers offsets = (
  λ names. let run = names.given in
      let (rest, before, last) = run.given in
      names.numbers ∙ map_same names.items
      ∙ ended numbers names.items run.last run.left rest (given_first (items_of numbers) names.items rest before) last
      run.ends,
  λ same. rw same (rw append-nil at (names_numbers numbers None [] [] (refl, refl) tt)),
)

-- or exactly those before the first error, which isn't an `OutOfMemory`
pub named_until : (numbers offsets : List ℕ) (e : Error) (rest : List Item)
    → NamesOffsets Steps (λ n. n) (items_of numbers ++ Err e ∷ rest) offsets
    ↔ ((e ≢ OutOfMemory) × (offsets ≡ numbers))
named_until numbers offsets e rest = (
  λ names. let run = names.given in
      let start = items_of numbers ++ Err e ∷ rest in
      let (others, before, last) = run.given in
      let both = ended_until numbers names.items e rest run.last run.left others
      (given_first start names.items others before) last run.ends in
      (both.0, names.numbers ∙ map_same names.items ∙ both.1),
  λ is. rw is.1 (names_numbers numbers (Some (Err e)) rest (Err e ∷ rest) refl is.0),
)
