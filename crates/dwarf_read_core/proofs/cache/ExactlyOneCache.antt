-- A section and offsets determine what a cache keeps.
use Rattle.dwarf_read_core.proofs.Common.{◌≡◌, ℕ, ◌<◌, ◌≤◌, List, Option, Some, None, Result, MatchOption, arith, inl, inr, cases_lt, Error, Input, Answer, KeepsAnswers, occurrences, Table}
use Rattle.dwarf_read_core.proofs.tables.ExactlyOneAnswer.{answer_exactly_one}

-- what a cache has at an offset: nothing, or the result that is kept there
abbrev Kept : Type 0
Kept = Option (Result Table Error)

-- nothing is kept at an offset that occurs too seldom, and else the section's result there
abbrev IsKept : ℕ → Input → List ℕ → ℕ → Kept → Type 0
IsKept least section offsets key kept =
    MatchOption kept (occurrences key offsets < least)
    (λ answer. (least ≤ occurrences key offsets) × Answer section key answer)

-- at each offset there is a result to be kept, or none
result-some : (least : ℕ) (section : Input) (offsets : List ℕ) (key : ℕ)
    → (kept : Kept) × IsKept least section offsets key kept
result-some least section offsets key =
    elim (cases_lt (occurrences key offsets) least) [
      | inl few ↦ (None, few)
      | inr enough ↦ let one = answer_exactly_one section key in (Some one.0, (enough, one.1))
    ]

-- some map keeps exactly the offsets that occur often enough, each with the section's result
pub cache-some : (least : ℕ) (section : Input) (offsets : List ℕ)
    → (kept : ℕ → Kept) × KeepsAnswers least section offsets kept
cache-some least section offsets =
    ((λ key. (result-some least section offsets key).0), λ key. (result-some least section offsets key).1)

-- two maps that keep the results of the same section and offsets agree at each key
pub cache-same : (least : ℕ) (section : Input) (offsets : List ℕ) (kept others : ℕ → Kept)
    → KeepsAnswers least section offsets kept → KeepsAnswers least section offsets others → (key : ℕ)
    → others key ≡ kept key
cache-same least section offsets kept others of_kept of_others key =
    grind (arith, of_kept key, of_others key, (answer_exactly_one section key).2)
