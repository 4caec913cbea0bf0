-- What a cache keeps after one more offset.
use Rattle.dwarf_read_core.proofs.Common.{common_steps, ◌≡◌, ◌≢◌, ℕ, ◌+◌, ◌<◌, ◌≤◌, cond, eqb, List, [], ◌∷◌, ◌++◌, length, take, get_or, map, Option, Some, None, Result, refl, arith, All, IsPermutation, take_more, map_push, nat_tests, All-head, All-tail, sum_by-IsPermutation, sum_by_push, Error, Input, Answer, KeepsAnswers, occurrences, Table, ap, Cache, get, insert, get-insert, nat_cmp_total, nat_cmp, empty, least_count, eq-eqb, sum_by-cons, ◌∙◌}
use Rattle.std.specs.FinMap.{get-empty}
use Rattle.std.specs.Prelude.{IsSome}
use Rattle.std.proofs.lemmas.List.Sums.{sum_by-append}
use Rattle.dwarf_read_core.specs.declared.read.abbrev.cache.AbbreviationsCacheStrategy.{AbbreviationsCacheStrategy}
use Rattle.dwarf_read_core.specs.declared.read.abbrev.cache.AbbreviationsCacheStrategy.TheVariants.{Duplicates, All as AllOffsets}

-- after one more offset, that offset occurs once more, and the others as often as before
pub occurrences-push : (q key : ℕ) (seen : List ℕ)
    → occurrences q (seen ++ key ∷ []) ≡ occurrences q seen + cond (eqb key q) 1 0
occurrences-push q key seen = sum_by_push (λ o. cond (eqb o q) 1 0) seen key

-- an offset above all others isn't among them
pub occurrences_above : (key last : ℕ) (seen : List ℕ) → All (λ offset. offset ≤ last) seen → last < key
    → occurrences key seen ≡ 0
occurrences_above key last [] upto above = refl
occurrences_above key last (offset ∷ seen) upto above =
    let here : offset ≤ last = All-head (λ o. o ≤ last) offset seen upto in
    let rest = occurrences_above key last seen (All-tail (λ o. o ≤ last) offset seen upto) above in
    grind (arith, nat_tests)

-- one more item of a list of offsets adds its number to the numbers
pub seen_more : {O : Type 0} (number : O → ℕ) (offsets : List O) (i : ℕ) (offset : O) (key : ℕ)
    → i < length offsets → get_or offsets i offset ≡ offset → key ≡ number offset
    → map number (take (i + 1) offsets) ≡ map number (take i offsets) ++ key ∷ []
seen_more number offsets i offset key within is named = grind (arith, common_steps, take_more, map_push, get_or)

-- the empty cache keeps what is to be kept of no offsets
pub kept_nothing : (strategy : AbbreviationsCacheStrategy) (section : Input) (cache : Cache) → cache ≡ empty
    → KeepsAnswers (least_count strategy) section [] (get cache)
kept_nothing strategy section cache none key = grind (arith, get-empty {X = Result Table Error} nat_cmp key)

-- what is kept stays the same if the new offset doesn't occur just often enough
pub kept_same : (least : ℕ) (section : Input) (seen : List ℕ) (key : ℕ) (kept : ℕ → Option (Result Table Error))
    → KeepsAnswers least section seen kept → occurrences key seen + 1 ≢ least
    → KeepsAnswers least section (seen ++ key ∷ []) kept
kept_same least section seen key kept h other q =
    let same : q ≡ key → occurrences q seen ≡ occurrences key seen = ap (λ (k : ℕ). occurrences k seen) in
    grind (arith, nat_tests, same, occurrences-push q key seen, h q)

-- if the new offset occurs just often enough, it is kept with the section's result
pub kept_more : (least : ℕ) (section : Input) (seen : List ℕ) (key : ℕ) (answer : Result Table Error)
    (kept new : ℕ → Option (Result Table Error)) → KeepsAnswers least section seen kept
    → occurrences key seen + 1 ≡ least → Answer section key answer
    → ((q : ℕ) → new q ≡ cond (eqb q key) (Some answer) (kept q))
    → KeepsAnswers least section (seen ++ key ∷ []) new
kept_more least section seen key answer kept new h enough is put q =
    let same : q ≡ key → occurrences q seen ≡ occurrences key seen = ap (λ (k : ℕ). occurrences k seen) in
    grind (arith, nat_tests, same, occurrences-push q key seen, h q, put q)

-- what is kept for offsets is kept for the same offsets in another order
pub kept_in_any_order : (least : ℕ) (section : Input) (offsets others : List ℕ) (kept : ℕ → Option (Result Table Error))
    → IsPermutation offsets others → KeepsAnswers least section others kept → KeepsAnswers least section offsets kept
kept_in_any_order least section offsets others kept moved h q = grind (arith, sum_by-IsPermutation)

-- a cache into which a result is inserted has it at the key, and else what it had
pub get_inserted : (cache : Cache) (key : ℕ) (answer : Result Table Error) (q : ℕ)
    → get (insert cache key answer) q ≡ cond (eqb q key) (Some answer) (get cache q)
get_inserted cache key answer q = grind (arith, nat_tests, get-insert nat_cmp_total cache key answer q)

-- ---- what the strategies keep

-- an offset that occurs at least `least` times is kept
pub enough_kept : (least : ℕ) (section : Input) (offsets : List ℕ) (key : ℕ) (kept : ℕ → Option (Result Table Error))
    → KeepsAnswers least section offsets kept → least ≤ occurrences key offsets → IsSome (kept key)
enough_kept least section offsets key kept h enough = grind (arith, h key)

-- an offset that occurs less often isn't kept
pub few_not_kept : (least : ℕ) (section : Input) (offsets : List ℕ) (key : ℕ) (kept : ℕ → Option (Result Table Error))
    → KeepsAnswers least section offsets kept → occurrences key offsets < least → kept key ≡ None
few_not_kept least section offsets key kept h few = grind (arith, h key)

-- in two lists an offset occurs as often as in both
occurrences-append : (key : ℕ) (offsets others : List ℕ)
    → occurrences key (offsets ++ others) ≡ occurrences key offsets + occurrences key others
occurrences-append key offsets others = sum_by-append (λ o. cond (eqb o key) 1 0) offsets others

-- an offset occurs once more with itself before the others
occurrences_here : (key : ℕ) (offsets : List ℕ) → occurrences key (key ∷ offsets) ≡ 1 + occurrences key offsets
occurrences_here key offsets =
    sum_by-cons (λ o. cond (eqb o key) 1 0) key offsets
    ∙ ap (λ b. cond b 1 0 + occurrences key offsets) (eq-eqb key key refl)

-- it doesn't occur among other offsets
occurrences_none : (key : ℕ) (offsets : List ℕ) → All (λ offset. offset ≢ key) offsets → occurrences key offsets ≡ 0
occurrences_none key [] none = refl
occurrences_none key (offset ∷ offsets) none =
    let other : offset ≢ key = All-head (λ o. o ≢ key) offset offsets none in
    let rest = occurrences_none key offsets (All-tail (λ o. o ≢ key) offset offsets none) in
    grind (arith, nat_tests)

-- an offset among others occurs at least once
pub occurs_among : (key : ℕ) (before after : List ℕ) → 1 ≤ occurrences key (before ++ key ∷ after)
occurs_among key before after =
    omega (arith, occurrences-append key before (key ∷ after), occurrences_here key after)

-- and two of them at least twice
pub occur_twice : (key : ℕ) (before between after : List ℕ)
    → 2 ≤ occurrences key (before ++ key ∷ between ++ key ∷ after)
occur_twice key before between after =
    omega (
      arith,
      occurrences-append key (before ++ key ∷ between) (key ∷ after),
      occurs_among key before between,
      occurrences_here key after,
    )

-- an offset that is among the others once occurs less than twice
pub occurs_once : (key : ℕ) (before after : List ℕ) → All (λ offset. offset ≢ key) before
    → All (λ offset. offset ≢ key) after → occurrences key (before ++ key ∷ after) < 2
occurs_once key before after none nothing =
    omega (
      arith,
      occurrences-append key before (key ∷ after),
      occurrences_here key after,
      occurrences_none key before none,
      occurrences_none key after nothing,
    )

-- each strategy keeps only offsets that occur
least-positive : (strategy : AbbreviationsCacheStrategy) → 0 < least_count strategy
least-positive Duplicates = omega arith
least-positive AllOffsets = omega arith

-- an offset that doesn't occur occurs too seldom for each strategy
pub occurs_never : (strategy : AbbreviationsCacheStrategy) (key : ℕ) (offsets : List ℕ)
    → All (λ offset. offset ≢ key) offsets → occurrences key offsets < least_count strategy
occurs_never strategy key offsets none = omega (arith, occurrences_none key offsets none, least-positive strategy)

-- what each strategy keeps
pub ruleset strategies = (enough_kept, few_not_kept, occurs_among, occur_twice, occurs_once)
