-- What a cache of abbreviation tables keeps.
use Rattle.std.specs.Prelude.{◌≡◌, ◌≢◌, ◌==◌, ℕ, ◌<◌, ◌≤◌, List, map, count_by, Option, Some, None, MatchOption, IfSome, Result, Ok, Err, MatchResult, ⊤, ◌⊎◌}
use Rattle.std.specs.FinMap as finite
use Rattle.std.specs.Iterator.{YieldsThen}
use Rattle.std.specs.Ordering.{nat_cmp}
use Rattle.std.specs.declared.rc.Rc.{Rc}
use Rattle.dwarf_base_core.specs.declared.error.Error.{Error}
use Rattle.dwarf_base_core.specs.declared.error.Error.TheVariants.{OutOfMemory}
use Rattle.dwarf_reader_core.specs.Input.{Input}
use Rattle.dwarf_read_core.specs.Answer.{Answer, IsFinal}
use Rattle.dwarf_read_core.specs.Grammar.{Table}
use Rattle.dwarf_read_core.specs.declared.read.abbrev.cache.AbbreviationsCacheStrategy.{AbbreviationsCacheStrategy}
use Rattle.dwarf_read_core.specs.declared.read.abbrev.cache.AbbreviationsCacheStrategy.TheVariants.{Duplicates, All}

-- a result with a shared table, without the sharing
abbrev pub answer_of : {Z : Type 0} → Result (Rc Table Z) Error → Result Table Error
answer_of (Ok shared) = Ok shared.value
answer_of (Err e) = Err e

-- the entries of a cache, without the sharing of their tables
abbrev pub shown_entries : {Z : Type 0} → List (ℕ × Result (Rc Table Z) Error) → List (ℕ × Result Table Error)
shown_entries entries = map (λ entry. (entry.0, answer_of entry.1)) entries

-- the results that a cache keeps, by offset
abbrev pub Cache : Type 0
Cache = finite.FinMap nat_cmp (Result Table Error)

-- the cache keeps no `OutOfMemory`
abbrev pub KeepsNoOutOfMemory : Cache → Type 0
KeepsNoOutOfMemory cache = (key : ℕ) → finite.get cache key ≢ Some (Err OutOfMemory)

-- how often an offset has to occur to be kept
abbrev pub least_count : AbbreviationsCacheStrategy → ℕ
least_count Duplicates = 2
least_count All = 1

-- how often an offset occurs
abbrev pub occurrences : ℕ → List ℕ → ℕ
occurrences key offsets = count_by (λ offset. offset == key) offsets

-- exactly the offsets that occur often enough are kept, each with the section's result
abbrev pub KeepsAnswers : ℕ → Input → List ℕ → (ℕ → Option (Result Table Error)) → Type 0
KeepsAnswers least section offsets kept =
    (key : ℕ) → MatchOption (kept key) (occurrences key offsets < least)
    (λ answer. (least ≤ occurrences key offsets) × Answer section key answer)

-- each result that the cache keeps is the section's
abbrev pub IsFaithful : Cache → Input → Type 0
IsFaithful cache section = (key : ℕ) → IfSome (finite.get cache key) (Answer section key)

-- what comes after the items: nothing, or an error that isn't `OutOfMemory`
abbrev pub EndsItems : {T : Type 0} → Option (Result T Error) → Type 0
EndsItems None = ⊤
EndsItems (Some item) = MatchResult item (λ _. ⊥) (λ e. e ≢ OutOfMemory)

-- calls of `next` returned these items, each as an `Ok`, and then the end or a first error
pub record GivesBeforeError {S T : Type 0} (steps : S → Option (Result T Error) → S → Type 0) (from : S)
    (items : List T) : Type 0 where
  pub last : Option (Result T Error)
  pub left : S
  pub given : YieldsThen steps from (map (λ item. Ok item) items) last left
  pub ends : EndsItems last

-- the first call of `next` yields an item, or `OutOfMemory`
abbrev pub HasFirstItem : {S T : Type 0} → (S → Option (Result T Error) → S → Type 0) → S → Type 0
HasFirstItem {S = S} {T = T} steps from =
    (first : Result T Error) × (left : S) × steps from (Some first) left
    × MatchResult first (λ _. ⊤) (λ e. e ≡ OutOfMemory)

-- the numbers of the offsets that come before the first error
pub record NamesOffsets {S T : Type 0} (steps : S → Option (Result T Error) → S → Type 0) (number : T → ℕ)
    (from : S) (offsets : List ℕ) : Type 0 where
  pub items : List T
  pub given : GivesBeforeError steps from items
  pub numbers : offsets ≡ map number items

-- a kept table is returned shared, unless memory to share it runs out; a kept error is returned unchanged, and isn't
-- `OutOfMemory`
abbrev pub ReturnsKept : {Z : Type 0} → Result Table Error → Result (Rc Table Z) Error → Type 0
ReturnsKept kept result =
    MatchResult kept (λ table. MatchResult result (λ shared. shared.value ≡ table) (λ e. e ≡ OutOfMemory))
    (λ e. (result ≡ Err e) × (e ≢ OutOfMemory))

-- what a cache keeps of an entry once the section has grown: the entry if appended bytes leave it unchanged, and else
-- nothing
abbrev pub StillKept : Option (Result Table Error) → Option (Result Table Error) → Type 0
StillKept None new = new ≡ None
StillKept (Some answer) new = (IsFinal answer × (new ≡ Some answer)) ⊎ ((IsFinal answer → ⊥) × (new ≡ None))
