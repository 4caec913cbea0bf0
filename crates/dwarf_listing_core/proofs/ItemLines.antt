-- The texts of consecutive items.
use Rattle.dwarf_listing_core.proofs.Common.{arith, ◌≡◌, ℕ, Bool, List, [], ◌∷◌, ◌++◌, Option, Some, Result, Ok, Err, refl, sym, ap, ◌∙◌, append_assoc, inl, inr, Error, OutOfMemory, Set, Joins, ListsItemsOf, ListsRun, nothing, bad_item, bad_text, item, in_front, SetListing, HasSets, ListsLine, ListsSection, ListsSet}
use Rattle.std.proofs.Common.{subst}
use Rattle.std.specs.Prelude.{◌≢◌, Vec, vec_items}
use Rattle.std.specs.declared.alloc.Global.{Global}
use Rattle.dwarf_read_core.specs.Lookups.{UnlessOutOfMemory}
use Rattle.dwarf_read_core.specs.Input.{Input}
use Rattle.dwarf_read_core.specs.Items.{GivesFirst}
use Rattle.dwarf_read_core.specs.Contributions.{Remaining, RemainingOf, remaining_of, seen_by}

-- ---- the loop over an iterator

-- a text before one that is before a listing is both texts, joined, before it
pub in_front-append : (a b : List ℕ) (listed : Result (List ℕ) Error)
    → in_front a (in_front b listed) ≡ in_front (a ++ b) listed
in_front-append a b (Ok text) = grind (arith, append_assoc)
in_front-append a b (Err e) = refl

-- an error after a text is the error of what is listed after the text
pub in_front-error : {Lists : Result (List ℕ) Error → Type 0} (text : List ℕ) (e : Error)
    → Joins (Ok text) Lists (Err e) → Lists (Err e)
in_front-error {Lists} text e joined = is_it joined.0 joined.1 joined.2
  where
    is_it : (rest : Result (List ℕ) Error) → Lists rest → Err e ≡ in_front text rest → Lists (Err e)
    is_it (Ok more) lists same = absurd cc
    is_it (Err other) lists same = subst Lists (sym same) lists

-- what is listed of the items that remain completes the text to the old one and what is listed of all items
abbrev pub Completes : {I : Type 0} → (I → Result (List ℕ) Error → Type 0) → I → I → List ℕ → List ℕ → Type 0
Completes Lists start now old text =
    (rest : Result (List ℕ) Error) → Lists now rest → Joins (Ok old) (Lists start) (in_front text rest)

module _ {I X : Type 0} (gives : I → Option (Result X Error) → I → Type 0) (Lists : X → Result (List ℕ) Error → Type 0)
    (start now next : I) (x : X) (old text new : List ℕ) where
  -- a text that the items from the next one on complete is completed by those after it once it has the text of that one
  pub completes-next : Completes (ListsRun gives Lists) start now old text → gives now (Some (Ok x)) next
      → Joins (Ok text) (Lists x) (Ok new) → Completes (ListsRun gives Lists) start next old new
  completes-next before gave own = after own.0 own.1 own.2
    where
      after : (own : Result (List ℕ) Error) → Lists x own → Ok new ≡ in_front text own
          → Completes (ListsRun gives Lists) start next old new
      after (Ok more) lists same rest h =
          let whole = before (in_front more rest) (item now next x more rest gave lists h) in
          let joined : new ≡ text ++ more = cc in
          (whole.0, whole.1, ap (λ t. in_front t rest) joined ∙ sym (in_front-append text more rest) ∙ whole.2)
      after (Err e) lists same rest h = absurd cc

-- ---- other listings of the same

-- a result that is listed in one way is also listed in another, if each listing is, unless memory ran out
pub listed_otherwise : {X Y : Type 0} {One Other : Result Y Error → Type 0} (view : X → Y)
    → ((listed : Result Y Error) → listed ≢ Err OutOfMemory → One listed → Other listed)
    → (r : Result X Error) → UnlessOutOfMemory One view r → UnlessOutOfMemory Other view r
listed_otherwise view to (Ok x) is_one = to (Ok (view x)) (λ same. absurd cc) is_one
listed_otherwise view to (Err e) is_one = λ memory. to (Err e) (λ same. memory cc) (is_one memory)

-- ---- what the iterator represents

module _ {I X A : Type 0} (Represents : I → List (Result A Error) → Type 0) (view : X → A)
    (Lists : A → Result (List ℕ) Error → Type 0) where
  -- what an iterator yields is listed as the items that it represents, unless memory ran out
  items_of_run : {is_free : Bool} {now : I} {listed : Result (List ℕ) Error}
      → ListsRun (GivesFirst Represents view is_free) (λ x. Lists (view x)) now listed → listed ≢ Err OutOfMemory
      → ListsItemsOf Represents Lists now listed
  items_of_run (nothing now next none) memory = ([], none.0, refl)
  items_of_run (bad_item now next e (inl first)) memory = (Err e ∷ first.0.0, first.1 first.0.0 first.0.1, refl)
  items_of_run (bad_item now next e (inr want)) memory = absurd (memory (λ i. Err (want.0.fault i)))
  items_of_run (bad_text now next x e first h) memory =
      (Ok (view x) ∷ first.0.0, first.1 first.0.0 first.0.1, (Err e, h, refl))
  items_of_run (item now next x text rest first h others) memory =
      let following = items_of_run others (λ same. memory (ap (in_front text) same)) in
      (Ok (view x) ∷ following.0, first.1 following.0 following.1, (Ok text, h, (rest, following.2, refl)))

-- the text of what an iterator over the sets of a section yields is that of these sets
pub text_of_sets : {R H : Type 0} (view : R → Input) (listing : SetListing H) (is_free : Bool) (now : RemainingOf R)
    {start : Remaining} → remaining_of view now ≡ start → (result : Result (Vec ℕ Global) Error)
    → UnlessOutOfMemory (ListsRun (GivesFirst (λ h. HasSets listing (remaining_of view h)) (seen_by view) is_free)
    (λ x. ListsSet listing (seen_by view x)) now) vec_items result
    → UnlessOutOfMemory (ListsSection listing start) vec_items result
text_of_sets view listing is_free now {start} same = listed_otherwise vec_items sets
  where
    sets : (listed : Result (List ℕ) Error) → listed ≢ Err OutOfMemory
        → ListsRun (GivesFirst (λ h. HasSets listing (remaining_of view h)) (seen_by view) is_free)
        (λ x. ListsSet listing (seen_by view x)) now listed → ListsSection listing start listed
    sets listed memory run = subst (λ h. ListsSection listing h listed) same (items_of_run
        (λ h. HasSets listing (remaining_of view h)) (seen_by view) (ListsSet listing) run memory)

-- the line of a set and the lines that its entries append are those of the set
pub set_appended : {H X : Type 0} (listing : SetListing H) (s : Set H) (view : X → ℕ) (is_free : Bool)
    (old between new : List ℕ) (r : Result (Unit {0}) Error) → between ≡ old ++ listing.header_line s
    → UnlessOutOfMemory (Joins (Ok between) (ListsRun (GivesFirst listing.represents view is_free)
    (λ x. ListsLine listing.entry_line (view x)) (listing.entries s))) (λ _. new) r
    → UnlessOutOfMemory (Joins (Ok old) (ListsSet listing s)) (λ _. new) r
set_appended listing s view is_free old between new r line = listed_otherwise (λ _. new) set r
  where
    set : (listed : Result (List ℕ) Error) → listed ≢ Err OutOfMemory
        → Joins (Ok between) (ListsRun (GivesFirst listing.represents view is_free)
        (λ x. ListsLine listing.entry_line (view x)) (listing.entries s)) listed
        → Joins (Ok old) (ListsSet listing s) listed
    set listed memory h =
        let entries = items_of_run listing.represents view (ListsLine listing.entry_line) h.1
        (λ ran. memory (h.2 ∙ ap (in_front between) ran)) in (
          in_front (listing.header_line s) h.0,
          (h.0, entries, refl),
          h.2 ∙ ap (λ t. in_front t h.0) line ∙ sym (in_front-append old (listing.header_line s) h.0),
        )
