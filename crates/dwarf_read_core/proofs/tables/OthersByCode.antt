-- Declarations by their places are entries in the order of their codes.
use Rattle.dwarf_read_core.proofs.Common.{◌≡◌, ℕ, ◌+◌, ◌<◌, get_or, ◌++◌, arith, Bool, cond, List, [], ◌∷◌, length, map, Option, Some, None, Bor, sym, ◌∙◌, option_copied, common_steps, is_at, All, values_of, lookup, nat_cmp, get_or_default, lookup-map_values, Declaration, keys_of}
use Rattle.std.proofs.Common.{IfSome, IsSome}
use Rattle.std.specs.BTreeMap.{insert_entry}
use Rattle.std.specs.List.Sorted.{IsStrictlySortedBy}
use Rattle.std.proofs.lemmas.List.{length_push, length-map}
use Rattle.std.proofs.lemmas.Map.Made.{keys_of-map_values}
use mathlib.Core.List.{map-map}
use Rattle.std.proofs.lemmas.Map.Views.{IfSome-lookup_from_All, All-values-insert_entry}
use Rattle.dwarf_read_core.specs.Others.{ArePlaces, at_place, with_places, Adds}

-- the entries are in the order of their codes
pub entries_sorted : (ds : List Declaration) (ps : List (ℕ × ℕ)) → ArePlaces ds ps
    → IsStrictlySortedBy nat_cmp (keys_of (with_places ds ps))
entries_sorted ds ps h = rw (keys_of-map_values (at_place ds) ps) h.ordered

-- there are as many entries as places
pub entries_counted : (ds : List Declaration) (ps : List (ℕ × ℕ)) → length (with_places ds ps) ≡ length ps
entries_counted ds ps = length-map ps (λ (p : ℕ × ℕ). (p.0, at_place ds p.1))

-- a reference to the declaration at an index is that declaration
pub copied_at : (r : Option (Bor Declaration)) (ds : List Declaration) (i : ℕ) → IsSome r
    → IfSome r (λ x. x.now ≡ get_or ds i x.now) → i < length ds → option_copied r ≡ Some (at_place ds i)
copied_at r ds i some same lt = grind (arith, get_or_default)

-- a place that is found is below each bound that all places are below
pub place_within : (test : ℕ → Bool) (n place : ℕ) (ps : List (ℕ × ℕ)) → All (λ p. p < n) (values_of ps)
    → lookup test ps ≡ Some place → place < n
place_within test n place ps within found = rw found at (IfSome-lookup_from_All (λ p. p < n) test ps within)

-- a code that has a place has a declaration
pub has_by_place : (test : ℕ → Bool) (ds : List Declaration) (ps : List (ℕ × ℕ)) → IsSome (lookup test ps)
    → IsSome (lookup test (with_places ds ps))
has_by_place test ds ps some = grind (arith, lookup-map_values (at_place ds) test ps)

-- one more declaration, and its place at its code, is one more entry
pub added_by_place : (ds : List Declaration) (ps qs : List (ℕ × ℕ)) (d : Declaration) (code place : ℕ) → ArePlaces ds ps
    → code ≡ d.code → place ≡ length ds → lookup (is_at (nat_cmp code)) ps ≡ None
    → ((q : ℕ) → lookup (is_at (nat_cmp q)) qs
    ≡ cond (is_at (nat_cmp code) q) (Some place) (lookup (is_at (nat_cmp q)) ps))
    → Adds d (with_places ds ps) (with_places (ds ++ d ∷ []) qs)
added_by_place ds ps qs d code place kept same last none h = record {
  absent = grind (arith, lookup-map_values (at_place ds) (is_at (nat_cmp d.code)) ps);
  added = λ q.
      let within : (other : ℕ) → lookup (is_at (nat_cmp q)) ps ≡ Some other → other < length ds =
      λ other. place_within (is_at (nat_cmp q)) (length ds) other ps kept.within in
      let old = lookup-map_values (at_place ds) (is_at (nat_cmp q)) ps in
      let new = lookup-map_values (at_place (ds ++ d ∷ [])) (is_at (nat_cmp q)) qs in
      grind (arith, common_steps, h q, within, old, new);
}

-- with one more place, they are places of one more declaration
pub places_put : (ds : List Declaration) (ps qs : List (ℕ × ℕ)) (d : Declaration) (code place : ℕ) → ArePlaces ds ps
    → place ≡ length ds → qs ≡ insert_entry nat_cmp ps code place → length qs ≡ length ps + 1
    → IsStrictlySortedBy nat_cmp (keys_of qs) → ArePlaces (ds ++ d ∷ []) qs
places_put ds ps qs d code place kept last put more ordered =
    let longer = length_push ds d in
    record {
      ordered = ordered;
      within = rw put (All-values-insert_entry nat_cmp code place (λ p. p < length (ds ++ d ∷ [])) ps
          (λ k p lt. let w = kept.within k p lt in omega (arith, longer)) (omega (arith, longer)));
      counted = omega (arith, longer, kept.counted);
    }

-- the values of declarations at places are those at the places
pub values_with_places : (ds : List Declaration) (ps : List (ℕ × ℕ))
    → values_of (with_places ds ps) ≡ map (at_place ds) (values_of ps)
values_with_places ds ps =
    map-map (λ (e : ℕ × Declaration). e.1) (λ (p : ℕ × ℕ). (p.0, at_place ds p.1)) ps
    ∙ sym (map-map (at_place ds) (λ (p : ℕ × ℕ). p.1) ps)

-- what the entries are
pub ruleset by_place = (entries_sorted, entries_counted, values_with_places)
