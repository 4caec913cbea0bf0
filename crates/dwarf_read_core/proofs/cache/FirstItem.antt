-- The first item of an iterator, by what it yielded.
use Rattle.dwarf_read_core.proofs.Common.{arith, ◌≡◌, ◌≢◌, List, [], ◌∷◌, map, Option, Some, Result, Ok, Err, refl, OnErr, Error, OutOfMemory, HasFirstItem}
use Rattle.std.specs.Iterator.{Yields, YieldsThen}

-- an iterator that yielded some items yielded an item first
pub first_item-of_items : {S T A : Type 0} (steps : S → Option (Result T Error) → S → Type 0) (from : S)
    (items : List T) (last : Option (Result T Error)) (left : S) (r : Result A Error)
    → items ≢ [] → YieldsThen steps from
    (map (λ (item : T). let r : Result T Error = Ok item in r) items) last left → OnErr r (HasFirstItem steps from)
first_item-of_items steps from items last left (Ok a) some given = tt
first_item-of_items steps from [] last left (Err e) some given = absurd (some refl)
first_item-of_items steps from (x ∷ xs) last left (Err e) some (t, (j, first, others), after) = (Ok x, j, first, tt)

-- an iterator that yielded items and then `OutOfMemory` yielded an item or `OutOfMemory` first
pub first_item-of_memory_error : {S T : Type 0} (steps : S → Option (Result T Error) → S → Type 0) (from now left : S)
    (given : List (Result T Error)) (items : List T) (item : Result T Error)
    → item ≡ Err OutOfMemory → given ≡ map (λ (item : T). let r : Result T Error = Ok item in r) items
    → Yields steps from given now → steps now (Some item) left → HasFirstItem steps from
first_item-of_memory_error {T = T} steps from now left [] items item want same given after = grind arith
first_item-of_memory_error steps from now left (x ∷ xs) [] item want same given after = absurd cc
first_item-of_memory_error {T = T} steps from now left (x ∷ xs) (y ∷ items) item want same (j, first, others) after =
    grind arith
