-- A vector of the first abbreviations, and the others, are one finite map.
use Rattle.dwarf_read_core.proofs.Common.{common_steps, ◌≡◌, ℕ, zero, suc, ◌+◌, ◌<◌, ◌≤◌, get_or, ◌++◌, arith, true, false, cond, List, [], ◌∷◌, length, Some, None, Result, Ok, Err, OnOk, OnErr, refl, sym, ap, ◌∙◌, ◌⊎◌, length-append, is_some, nat_cmp, Less, nat_cmp_total, eq_by_cmp_equiv, lookup, keys_of, values_of, is_at, get, insert, contains_key, values, from_entries, get-from_entries, get-insert, same_map, nat_cmp-IsAntisymmetric, len, len-empty, len-entries, entries, entries-insert, AllByRecursion, IsStrictlySortedBy, cases_lt, nil_from_length, Declaration, ByCode}
use Rattle.dwarf_read_core.specs.Others.{Adds, at_code, at_place}
use Rattle.std.specs.FinMap.Entries.{put, by_order}
use Rattle.dwarf_read_core.specs.Views.{numbered, entries_of, AreKeyed}

module _ {X : Type 0} where
  -- the map that entries make has at a code what a lookup of the code finds
  pub get_is_lookup : (es : List (ℕ × X)) (q : ℕ)
      → get (from_entries {R = nat_cmp} es) q ≡ lookup (is_at (nat_cmp q)) es
  get_is_lookup [] q = get-from_entries nat_cmp_total [] q
  get_is_lookup (e ∷ es) q =
      get-insert nat_cmp_total (from_entries es) e.0 e.1 q
      ∙ ap (cond (is_at (nat_cmp q) e.0) (Some e.1)) (get_is_lookup es q)

  -- if entries are changed at one code, the map that they make is changed by an insertion
  pub inserted : (es fs : List (ℕ × X)) (k : ℕ) (d : X)
      → ((q : ℕ) → lookup (is_at (nat_cmp q)) fs ≡ cond (is_at (nat_cmp k) q) (Some d) (lookup (is_at (nat_cmp q)) es))
      → from_entries {R = nat_cmp} fs ≡ insert (from_entries es) k d
  inserted es fs k d h = same_map nat_cmp_total nat_cmp-IsAntisymmetric _ _ (λ q.
      get_is_lookup fs q ∙ h q ∙ ap (λ b. cond b (Some d) (lookup (is_at (nat_cmp q)) es))
      ((eq_by_cmp_equiv nat_cmp_total).symm k q)
      ∙ sym (get-insert nat_cmp_total (from_entries es) k d q
      ∙ ap (cond (is_at (nat_cmp q) k) (Some d)) (get_is_lookup es q)))

-- declarations by their codes
abbrev Entries : Type 0
Entries = List (ℕ × Declaration)

-- entries are changed at one code, by a declaration
abbrev Updates : Entries → Entries → ℕ → Declaration → Type 0
Updates es fs code d = (q : ℕ) → at_code q fs ≡ cond (is_at (nat_cmp code) q) (Some d) (at_code q es)

-- the map that vector and others make
abbrev map_of : List Declaration → Entries → ByCode
map_of ds es = from_entries (entries_of ds es)

-- a number compares as less than each key
abbrev IsBelow : ℕ → Entries → Type 0
IsBelow k es = AllByRecursion (λ y. nat_cmp k y ≡ Less) (keys_of es)

-- an entry whose code is below all others is put before them
put_first : (k : ℕ) (d : Declaration) (es : Entries) → IsBelow k es → put nat_cmp k d es ≡ (k, d) ∷ es
put_first k d [] h = refl
put_first k d (e ∷ es) h = ap (λ r. by_order r ((k, d) ∷ e ∷ es) ((e.0, d) ∷ es) (e ∷ put nat_cmp k d es)) h.0

-- the entries of the map that sorted entries make are those entries
pub entries_kept : (es : Entries) → IsStrictlySortedBy nat_cmp (keys_of es)
    → entries (from_entries {R = nat_cmp} es) ≡ es
unfolding IsStrictlySortedBy
entries_kept [] h =
    nil_from_length _
    (sym (len-entries (from_entries {X = Declaration} {R = nat_cmp} [])) ∙ len-empty nat_cmp Declaration)
entries_kept (e ∷ es) h =
    entries-insert nat_cmp_total (from_entries es) e.0 e.1 ∙ ap (put nat_cmp e.0 e.1) (entries_kept es h.1)
    ∙ put_first e.0 e.1 es h.0

-- ---- a vector of the first codes, and the others

-- a code above those of the vector is looked up among the others
at_above : (k q : ℕ) (ds : List Declaration) (es : Entries) → k + length ds ≤ q
    → at_code q (numbered k ds ++ es) ≡ at_code q es
at_above k q [] es le = refl
at_above k q (d ∷ ds) es le = grind (arith, (at_above (suc k) q ds es (omega arith)))

-- a code of the vector is looked up as the declaration at its index
at_within : (k i : ℕ) (ds : List Declaration) (es : Entries) (d : Declaration) → i < length ds
    → at_code (k + i) (numbered k ds ++ es) ≡ Some (get_or ds i d)
at_within k i [] es d lt = absurd (omega arith)
at_within k zero (x ∷ ds) es d lt = grind arith
at_within k (suc i) (x ∷ ds) es d lt = grind (arith, (at_within (suc k) i ds es d (omega arith)))

-- one more declaration in the vector changes the lookup of the next code alone
at_push : (k q : ℕ) (ds : List Declaration) (d : Declaration) (es : Entries)
    → at_code q (numbered k (ds ++ d ∷ []) ++ es)
    ≡ cond (is_at (nat_cmp (k + length ds)) q) (Some d) (at_code q (numbered k ds ++ es))
at_push k q [] d es = grind arith
at_push k q (x ∷ ds) d es = grind (arith, (at_push (suc k) q ds d es))

-- one more declaration among the others changes the lookup of its code alone
at_insert : (k q c : ℕ) (ds : List Declaration) (d : Declaration) (es fs : Entries)
    → k + length ds ≤ c → at_code q fs ≡ cond (is_at (nat_cmp c) q) (Some d) (at_code q es)
    → at_code q (numbered k ds ++ fs) ≡ cond (is_at (nat_cmp c) q) (Some d) (at_code q (numbered k ds ++ es))
at_insert k q c [] d es fs le h = h
at_insert k q c (x ∷ ds) d es fs le h = grind (arith, (at_insert (suc k) q c ds d es fs (omega arith) h))

-- a list of entries that is empty, or that doesn't have a code, has no declaration at that code
pub none_at : (code : ℕ) (es : Entries) → (length es ≡ 0) ⊎ (is_some (at_code code es) ≡ false) → at_code code es ≡ None
none_at code es h = grind (arith, nil_from_length)

-- an insertion among the others above the vector's codes is an insertion into the map that vector and others make
pub table_put : (ds : List Declaration) (es fs : Entries) (code : ℕ) (d : Declaration) → length ds < code
    → Updates es fs code d → map_of ds fs ≡ insert (map_of ds es) code d
table_put ds es fs code d lt h = grind (arith, common_steps, inserted, at_insert)

module _ (ds : List Declaration) (es : Entries) (code : ℕ) where
  -- a push to the vector is an insertion into the map that vector and others make
  pub table_pushed : (d : Declaration) → code ≡ 1 + length ds → map_of (ds ++ d ∷ []) es ≡ insert (map_of ds es) code d
  table_pushed d e = grind (arith, inserted, at_push)

  -- the map lacks the vector's next code if the others do
  pub lacks_next : code ≡ 1 + length ds → at_code code es ≡ None → contains_key (map_of ds es) code ≡ false
  lacks_next e none = grind (arith, get_is_lookup, at_above)

  -- the map has at a code of the vector the declaration at that index
  pub found_in_vec : (index : ℕ) (d : Declaration) → code ≡ index + 1 → index < length ds
      → get (map_of ds es) code ≡ Some (get_or ds index d)
  found_in_vec index d e lt = grind (arith, common_steps, get_is_lookup, at_within)

  -- the map has the code one above each index of the vector
  pub has_in_vec : (index : ℕ) → code ≡ index + 1 → index < length ds → contains_key (map_of ds es) code ≡ true
  has_in_vec index e lt = ap is_some (found_in_vec index (at_place ds 0) e lt)

  -- the map has at a code above the vector's what the others have
  pub found_in_map : length ds < code → get (map_of ds es) code ≡ at_code code es
  found_in_map lt = get_is_lookup (entries_of ds es) code ∙ at_above 1 code ds es (omega arith)

  -- the map lacks code 0
  pub zero_not_found : code ≡ 0 → AreKeyed ds es → get (map_of ds es) code ≡ None
  zero_not_found zero_code kept = grind (arith, get_is_lookup)

-- ---- the length of a table

-- if the others lack each code up to n, all their keys are above n
keys_above : (n k : ℕ) (es : Entries) → ((q : ℕ) → q ≤ n → at_code q es ≡ None) → k ≤ n → IsBelow k es
keys_above n k [] h le = tt
keys_above n k (e ∷ es) h le = (grind (arith, h e.0), keys_above n k es (λ q le. grind (arith, h q, h e.0)) le)

-- a code below those of the vector and of the others is below all of them
numbered_above : (k j : ℕ) (ds : List Declaration) (es : Entries) → k < j → IsBelow k es
    → IsBelow k (numbered j ds ++ es)
numbered_above k j [] es lt h = h
numbered_above k j (d ∷ ds) es lt h = (grind arith, numbered_above k (suc j) ds es (omega arith) h)

-- the entries of the vector and then of the others are sorted, if the keys of the others are sorted and above
numbered_sorted : (k n : ℕ) (ds : List Declaration) (es : Entries) → k + length ds ≤ n + 1
    → ((q : ℕ) → q ≤ n → at_code q es ≡ None) → IsStrictlySortedBy nat_cmp (keys_of es)
    → IsStrictlySortedBy nat_cmp (keys_of (numbered k ds ++ es))
unfolding IsStrictlySortedBy
numbered_sorted k n [] es le apart h = h
numbered_sorted k n (d ∷ ds) es le apart h = (
  numbered_above k (suc k) ds es (omega arith) (keys_above n k es apart (omega arith)),
  numbered_sorted (suc k) n ds es (omega arith) apart h,
)

-- vector and others have as many entries as both together
length_numbered : (k : ℕ) (ds : List Declaration) (es : Entries) → length (numbered k ds ++ es) ≡ length ds + length es
length_numbered k [] es = omega arith
length_numbered k (d ∷ ds) es = omega (arith, length_numbered (suc k) ds es)

-- the values of the entries are the declarations of the vector and then those of the others
values_numbered : (k : ℕ) (ds : List Declaration) (es : Entries) → values_of (numbered k ds ++ es) ≡ ds ++ values_of es
values_numbered k [] es = refl
values_numbered k (d ∷ ds) es = ap (λ rest. d ∷ rest) (values_numbered (suc k) ds es)

module _ (ds : List Declaration) (es : Entries) (kept : AreKeyed ds es)
    (sorted : IsStrictlySortedBy nat_cmp (keys_of es)) where
  -- the entries of a table's vector and then of its others are sorted if those of the others are
  sorted_of_both : IsStrictlySortedBy nat_cmp (keys_of (entries_of ds es))
  sorted_of_both = numbered_sorted 1 (length ds) ds es (omega arith) kept.apart sorted

  -- the map that vector and others make has as many entries as both together
  pub table_len : len (map_of ds es) ≡ length ds + length es
  table_len = grind (arith, len-entries, entries_kept, sorted_of_both, length_numbered)

  -- the values of the map that vector and others make are those of the vector and then those of the others
  pub table_values : values (map_of ds es) ≡ ds ++ values_of es
  table_values = grind (arith, entries_kept, sorted_of_both, values_numbered)

-- ---- what stays true of vector and others

module _ (ds : List Declaration) (es : Entries) (code : ℕ) where
  -- a declaration that is found among the others has the code that it is found under
  pub keyed_in_map : (d : Declaration) → AreKeyed ds es → at_code code es ≡ Some d → (d.code ≡ code) × (0 < code)
  keyed_in_map d kept h = grind (arith, at_above 1 code ds es, kept.apart code, kept.keyed code d)

  -- a declaration in the vector has the code that is one above its index
  pub keyed_in_vec : (index : ℕ) (d : Declaration) → AreKeyed ds es → code ≡ index + 1 → index < length ds
      → (get_or ds index d).code ≡ code
  keyed_in_vec index d kept e lt = grind (arith, common_steps, at_within 1 index ds es d lt, kept.keyed code)

  -- a push of a declaration with the vector's next code, which the others lack, leaves all at their codes
  pub keyed_pushed : (d : Declaration) → code ≡ 1 + length ds → d.code ≡ code → at_code code es ≡ None → AreKeyed ds es
      → AreKeyed (ds ++ d ∷ []) es
  keyed_pushed d e same none kept = grind (arith, common_steps, at_push, cases_lt, length-append)

-- an insertion among the others at a code above the vector's leaves all declarations at their codes
pub keyed_put : (ds : List Declaration) (es fs : Entries) (code : ℕ) (d : Declaration) → length ds < code
    → Updates es fs code d → d.code ≡ code → AreKeyed ds es → AreKeyed ds fs
keyed_put ds es fs code d lt h same kept = record {
  apart = λ q le. grind (arith, h q, kept.apart q);
  keyed = λ q x found. grind (arith, h q, at_insert, kept.keyed q x);
}

-- all stay at their codes if a declaration above the vector's codes is added to the others, or nothing changes
pub keyed_inserted : {A E : Type 0} (r : Result A E) (ds : List Declaration) (es fs : Entries) (d : Declaration)
    → length ds < d.code → OnOk r (Adds d es fs) → OnErr r (fs ≡ es) → AreKeyed ds es → AreKeyed ds fs
keyed_inserted (Ok a) ds es fs d lt added same kept = keyed_put ds es fs d.code d lt added.added refl kept
keyed_inserted (Err e) ds es fs d lt added same kept = rw same kept

-- what an insertion makes of vector and others
pub ruleset insertion = (has_in_vec, found_in_map, table_pushed, table_put, keyed_put, keyed_inserted)

-- what vector and others have at a code
pub ruleset lookup_steps = (found_in_vec, found_in_map, zero_not_found, keyed_in_vec, keyed_in_map)
