-- Declarations with a place for each code are the values of their map, in the order of the places.
use Rattle.std.proofs.Common.{◌≢◌, All, IsSome, Some, None}
use Rattle.std.specs.BTreeMap.{insert_entry, is_at}
use Rattle.std.specs.FinMap.{contains_key, insert}
use Rattle.std.specs.List.{AllPairs}
unfoldable use Rattle.std.specs.List.Sorted.{IsStrictlySortedBy}
use Rattle.std.specs.Map.{keys_of, lookup, values_of}
use Rattle.std.specs.Ordering.{nat_cmp}
use Rattle.std.specs.Prelude.{cond}
use Rattle.std.proofs.lemmas.List.{length-map, map-append}
use Rattle.std.proofs.lemmas.List.Sums.{sum_by-append, sum_by-cons}
use Rattle.std.proofs.lemmas.List.Elements.{All-nil, All-same, All-head, All-drop}
use Rattle.std.proofs.lemmas.Map.Made.{lookup-map_values}
use Rattle.dwarf_read_core.specs.Equality.{HasValueByForm}
use Rattle.dwarf_read_core.specs.Grammar.{Specification, attribute_count, by_code_of}
use Rattle.dwarf_read_core.specs.Others.{at_place, with_places}
use Rattle.dwarf_read_core.proofs.public.Tables.{added_by_place, distinct_push, entries_kept, entries_sorted, get_is_lookup, has_by_place, inserted, places_put, table_push, values_with_places}
use Rattle.dwarf_read_c.specs.Laid.{AreKept, AreLaid, ArePlaced, AreRising, declaration_from, laid_out, last_code}
use Rattle.dwarf_read_c.specs.declared.rows.DwarfAbbreviation.{DwarfAbbreviation}
use Rattle.dwarf_read_c.proofs.LaidOut.{laid_more, laid_push, rest_after}
use Rattle.dwarf_read_c.proofs.RisingCodes.{rising-push}
use Rattle.dwarf_read_c.proofs.WrittenTables.{attributes_count, length-values}
use Rattle.dwarf_read_c.proofs.Common.{◌≡◌, ◌∙◌, true, false, ℕ, ◌+◌, ◌<◌, ◌≤◌, List, [], ◌∷◌, ◌++◌, length, map, refl, sym, ap, subst, arith, len, values, length-append, abbreviation_of, Declaration}

-- no declarations have no places
pub placed-none : ArePlaced [] []
unfolding IsStrictlySortedBy
placed-none = record {
  places = record { ordered = tt; within = All-nil (λ (place : ℕ). place < 0); counted = refl };
  found = refl;
}

module _ (ds : List Declaration) (ps : List (ℕ × ℕ)) (placed : ArePlaced ds ps) (code : ℕ) where
  -- the map lacks a code that has no place
  pub placed-lacks : lookup (is_at (nat_cmp code)) ps ≡ None → contains_key (by_code_of ds) code ≡ false
  placed-lacks none = grind (
    arith,
    placed.found,
    get_is_lookup (with_places ds ps) code,
    lookup-map_values (at_place ds) (is_at (nat_cmp code)) ps,
  )

  -- the map has a code that has a place
  pub placed-has : IsSome (lookup (is_at (nat_cmp code)) ps) → contains_key (by_code_of ds) code ≡ true
  placed-has some = grind (
    arith,
    placed.found,
    get_is_lookup (with_places ds ps) code,
    has_by_place (is_at (nat_cmp code)) ds ps some,
  )

  -- a code that the map lacks has no place
  pub placed-absent : contains_key (by_code_of ds) code ≡ false → lookup (is_at (nat_cmp code)) ps ≡ None
  placed-absent lacks = grind (arith, placed-has)

  -- with one more declaration and its place, each code still has its place
  pub placed-more : (qs : List (ℕ × ℕ)) (d : Declaration) (place : ℕ) → code ≡ d.code → place ≡ length ds
      → lookup (is_at (nat_cmp code)) ps ≡ None
      → ((q : ℕ) → lookup (is_at (nat_cmp q)) qs
      ≡ cond (is_at (nat_cmp code) q) (Some place) (lookup (is_at (nat_cmp q)) ps))
      → qs ≡ insert_entry nat_cmp ps code place → length qs ≡ length ps + 1
      → IsStrictlySortedBy nat_cmp (keys_of qs) → ArePlaced (ds ++ d ∷ []) qs
  placed-more qs d place same last none updates put longer ordered =
      let adds = added_by_place ds ps qs d code place placed.places same last none updates in
      let new : contains_key (by_code_of ds) d.code ≡ false = rw (← same) (placed-lacks none) in
      record {
        places = places_put ds ps qs d code place placed.places last put longer ordered;
        found = table_push ds d new ∙ ap (λ m. insert m d.code d) placed.found
            ∙ sym (inserted (with_places ds ps) (with_places (ds ++ d ∷ []) qs) d.code d adds.added);
      }

-- one more declaration has a place
pub placed-some : (ds : List Declaration) (ps : List (ℕ × ℕ)) (d : Declaration) → ArePlaced (ds ++ d ∷ []) ps
    → 0 < length ps
placed-some ds ps d placed = omega (arith, placed.places.counted, length-append ds (d ∷ []))

-- no rows rise
none-rising : (rows : List DwarfAbbreviation) → length rows ≡ 0 → AreRising 0 rows
none-rising [] none = tt
none-rising (a ∷ rows) none = absurd (omega (arith, none))

-- rows and attributes that are laid out, with a place for each code, can be kept
pub kept-placed : (attributes : List Specification) (rows : List DwarfAbbreviation) (ps : List (ℕ × ℕ))
    → AreLaid attributes rows → AllPairs (λ d later. d.code ≢ later.code) (laid_out attributes rows)
    → ArePlaced (laid_out attributes rows) ps → AreKept attributes rows ps
kept-placed attributes rows ps laid distinct placed =
    let counted : length (laid_out attributes rows) ≡ length rows = length-map rows (declaration_from attributes) in
    record {
      laid = laid;
      distinct = distinct;
      rising = λ none. none-rising rows (omega (arith, counted, placed.places.counted, none));
      placed = λ some. placed;
    }

-- a place among others is that of a declaration
pub placed-within : (ds : List Declaration) (ps : List (ℕ × ℕ)) (before after : List ℕ) (place : ℕ) → ArePlaced ds ps
    → before ++ place ∷ after ≡ values_of ps → place < length ds
placed-within ds ps before after place placed parts =
    let all : All (λ (p : ℕ). p < length ds) (before ++ place ∷ after) =
    All-same (λ (p : ℕ). p < length ds) (before ++ place ∷ after) (values_of ps) parts placed.places.within in
    All-head (λ (p : ℕ). p < length ds) place after
    (subst (All (λ (p : ℕ). p < length ds)) (rest_after before (place ∷ after))
    (All-drop (λ (p : ℕ). p < length ds) (length before) (before ++ place ∷ after) all))

-- the values of the map are the declarations at the places
pub placed-values : (ds : List Declaration) (ps : List (ℕ × ℕ)) → ArePlaced ds ps
    → values (by_code_of ds) ≡ map (at_place ds) (values_of ps)
placed-values ds ps placed =
    ap values placed.found
    ∙ ap (map (λ (e : ℕ × Declaration). e.1)) (entries_kept (with_places ds ps) (entries_sorted ds ps placed.places))
    ∙ values_with_places ds ps

-- at a place among others there is room for one more declaration, and for its attributes after those before it
pub placed-turn : (ds : List Declaration) (ps : List (ℕ × ℕ)) (before after : List ℕ) (place : ℕ) → ArePlaced ds ps
    → before ++ place ∷ after ≡ values_of ps → (length before < len (by_code_of ds))
    × (attributes_count (map (at_place ds) before) + length (at_place ds place).attributes
    ≤ attribute_count (by_code_of ds))
placed-turn ds ps before after place placed parts =
    let front = map (at_place ds) before in
    let declared : values (by_code_of ds) ≡ front ++ at_place ds place ∷ map (at_place ds) after =
    placed-values ds ps placed ∙ ap (map (at_place ds)) (sym parts)
    ∙ map-append (at_place ds) before (place ∷ after) in
    let sum : attribute_count (by_code_of ds)
    ≡ attributes_count front + attributes_count (at_place ds place ∷ map (at_place ds) after) =
    ap attributes_count declared ∙ sum_by-append (λ (d : Declaration). length d.attributes) front _ in
    let own = sum_by-cons (λ (d : Declaration). length d.attributes) (at_place ds place) (map (at_place ds) after) in
    let counted = length-append front (at_place ds place ∷ map (at_place ds) after) in (
      omega (arith, length-values (by_code_of ds), ap length declared, counted, length-map before (at_place ds)),
      omega (arith, sum, own),
    )

-- the declarations at all places are the values of the map
pub placed-all : (ds : List Declaration) (ps : List (ℕ × ℕ)) (all : List ℕ) → ArePlaced ds ps → all ≡ values_of ps
    → map (at_place ds) all ≡ values (by_code_of ds)
placed-all ds ps all placed same = ap (map (at_place ds)) same ∙ sym (placed-values ds ps placed)

-- with one more declaration, whose code is new and either above all others or has its place, all can be kept
pub kept-more : (attributes : List Specification) (rows : List DwarfAbbreviation) (ps qs : List (ℕ × ℕ))
    (d : Declaration) → AreKept attributes rows ps
    → contains_key (by_code_of (laid_out attributes rows)) d.code ≡ false → All HasValueByForm d.attributes
    → (length qs ≡ 0 → (length ps ≡ 0) × (last_code 0 rows < d.code))
    → (0 < length qs → ArePlaced (laid_out attributes rows ++ d ∷ []) qs)
    → AreKept (attributes ++ d.attributes) (rows ++ abbreviation_of (length attributes) d ∷ []) qs
kept-more attributes rows ps qs d is new valued above placed =
    let ds = laid_out attributes rows in
    let pushed = laid_push attributes rows d is.laid in
    record {
      laid = laid_more attributes rows d is.laid valued;
      distinct = rw pushed (distinct_push ds d is.distinct new);
      rising = λ none. rising-push 0 rows (abbreviation_of (length attributes) d) (is.rising (above none).0) (above none).1;
      placed = λ some. rw pushed (placed some);
    }

-- one more declaration with a new code is an insertion into the map
pub kept-inserted : (attributes : List Specification) (rows : List DwarfAbbreviation) (ps : List (ℕ × ℕ))
    (d : Declaration) → AreKept attributes rows ps
    → contains_key (by_code_of (laid_out attributes rows)) d.code ≡ false
    → by_code_of (laid_out (attributes ++ d.attributes) (rows ++ abbreviation_of (length attributes) d ∷ []))
    ≡ insert (by_code_of (laid_out attributes rows)) d.code d
kept-inserted attributes rows ps d is new =
    let ds = laid_out attributes rows in
    ap by_code_of (laid_push attributes rows d is.laid) ∙ table_push ds d new
