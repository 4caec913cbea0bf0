-- Consecutive items, listed in the order in which they are read.
use Rattle.std.specs.Prelude.{◌≡◌, ℕ, List, [], ◌∷◌, ◌++◌, Option, Some, None, Result, Ok, Err}
use Rattle.dwarf_read_core.specs.declared.Error.{Error}

-- a text before what is listed after it
abbrev pub in_front : List ℕ → Result (List ℕ) Error → Result (List ℕ) Error
in_front text (Ok more) = Ok (text ++ more)
in_front text (Err e) = Err e

-- a text joined with what is listed after it, or an error, after which nothing is listed
abbrev pub Joins : Result (List ℕ) Error → (Result (List ℕ) Error → Type 0) → Result (List ℕ) Error → Type 0
Joins (Ok text) Lists listed = (rest : Result (List ℕ) Error) × Lists rest × (listed ≡ in_front text rest)
Joins (Err e) Lists listed = listed ≡ Err e

-- the texts of items, joined, or the first error: that of an item, or that of its text
abbrev pub ListsItems : {A : Type 0} → (A → Result (List ℕ) Error → Type 0) → List (Result A Error)
    → Result (List ℕ) Error → Type 0
ListsItems Lists [] listed = listed ≡ Ok []
ListsItems Lists (Err e ∷ items) listed = listed ≡ Err e
ListsItems Lists (Ok x ∷ items) listed =
    (own : Result (List ℕ) Error) × Lists x own × Joins own (ListsItems Lists items) listed

-- the texts of the items that a source represents, or the first error
abbrev pub ListsItemsOf : {I A : Type 0} → (I → List (Result A Error) → Type 0)
    → (A → Result (List ℕ) Error → Type 0) → I → Result (List ℕ) Error → Type 0
ListsItemsOf {A = A} Represents Lists source listed =
    (items : List (Result A Error)) × Represents source items × ListsItems Lists items listed

-- the texts of what an iterator yields, or the first error; no public clause about a result cites this
pub data ListsRun {I X : Type 0} (gives : I → Option (Result X Error) → I → Type 0)
    (Lists : X → Result (List ℕ) Error → Type 0) : I → Result (List ℕ) Error → Type 0 where
  nothing : (now next : I) → gives now None next → ListsRun gives Lists now (Ok [])
  bad_item : (now next : I) (e : Error) → gives now (Some (Err e)) next → ListsRun gives Lists now (Err e)
  bad_text : (now next : I) (x : X) (e : Error) → gives now (Some (Ok x)) next → Lists x (Err e)
      → ListsRun gives Lists now (Err e)
  item : (now next : I) (x : X) (text : List ℕ) (rest : Result (List ℕ) Error) → gives now (Some (Ok x)) next
      → Lists x (Ok text) → ListsRun gives Lists next rest → ListsRun gives Lists now (in_front text rest)
