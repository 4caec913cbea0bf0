-- A cache whose entries are those of a section stays faithful to it.
use Rattle.dwarf_read_core.proofs.Common.{arith, subst, Option, Some, ℕ, List, Result, ◌≡◌, Error, Table, Answer, get, followed_by, Cache, KeepsAnswers, IsFaithful, IfSome, StillKept, Input}
use Rattle.dwarf_read_core.proofs.tables.AppendedBytes.{answer_more}

-- a cache that keeps results of a section is faithful to it
pub faithful_of_kept : (least : ℕ) (input : Input) (offsets : List ℕ) (cache : Cache)
    → KeepsAnswers least input offsets (get cache) → IsFaithful cache input
faithful_of_kept least input offsets cache h key = grind (arith, h key)

-- what a cache that is faithful to a section keeps is the section's result
pub kept_answer : (cache : Cache) (section : Input) (key : ℕ) {answer : Result Table Error} → IsFaithful cache section
    → get cache key ≡ Some answer → Answer section key answer
kept_answer cache section key faithful is =
    subst (λ (kept : Option (Result Table Error)). IfSome kept (Answer section key)) is (faithful key)

-- a faithful cache is faithful to the longer section once it has dropped what appended bytes may change
pub faithful_of_final : (old new : Cache) → ((key : ℕ) → StillKept (get old key) (get new key))
    → (section : Input) (more : List ℕ) → IsFaithful old section → IsFaithful new (followed_by section more)
faithful_of_final old new h section more faithful key =
    let stays = λ (answer : Result Table Error). answer_more {section = section} {offset = key} {r = answer} more in
    grind (arith, stays, h key, faithful key)
