-- The entries of a cache are one finite map.
use Rattle.dwarf_read_core.proofs.Common.{◌≡◌, ℕ, List, cond, Option, Some, Result, option_map, sym, ap, ◌∙◌, arith, filter, nat_cmp, is_at, nat_cmp_total, eq_by_cmp_equiv, get, insert, from_entries, lookup, keys_of, lookup-filter-values, IsDistinct-from_sorted, IsStrictlySortedBy, lookup-map_values, Error, Table, Cache, answer_of, shown_entries, is_final, StillKept, None, Ok, Err, refl, inr}
use Rattle.dwarf_base_core.specs.declared.error.Error.TheVariants.{UnexpectedEof}
use Rattle.std.specs.declared.rc.Rc.{Rc}
use Rattle.dwarf_read_core.proofs.tables.VectorAndMap.{get_is_lookup, inserted}

-- the entries that pass the test for final results
abbrev still_kept : Option (Result Table Error) → Option (Result Table Error)
still_kept None = None
still_kept (Some answer) = cond (is_final answer) (Some answer) None

-- the entries that pass are those that are still kept
still_kept-is : (old new : Option (Result Table Error)) → new ≡ still_kept old → StillKept old new
still_kept-is None new is = is
still_kept-is (Some (Ok t)) new is = grind arith
still_kept-is (Some (Err (UnexpectedEof p))) new is = inr ((λ settled. settled p.0 refl), is)
still_kept-is (Some (Err e)) new is = grind arith

-- the entries of a cache, with their tables shared
abbrev pub SharedEntries : Type 0 → Type 0
SharedEntries Z = List (ℕ × Result (Rc Table Z) Error)

module _ {Z : Type 0} where
  -- what entries have at an offset, without the sharing
  abbrev pub kept_at : SharedEntries Z → ℕ → Option (Result Table Error)
  kept_at entries key = option_map answer_of (lookup (is_at (nat_cmp key)) entries)

  -- the cache that entries are
  abbrev pub shown : SharedEntries Z → Cache
  shown entries = from_entries (shown_entries entries)

  -- the map that entries show has at a key what a search of the entries finds
  pub get-shown : (entries : SharedEntries Z) (key : ℕ) → get (shown entries) key ≡ kept_at entries key
  get-shown entries key = get_is_lookup (shown_entries entries) key
      ∙ lookup-map_values answer_of (is_at (nat_cmp key)) entries

  -- the entries fs have v at a key, and else what es have
  abbrev pub Updates : SharedEntries Z → SharedEntries Z → ℕ → Result (Rc Table Z) Error → Type 0
  Updates es fs key v = (q : ℕ)
      → lookup (is_at (nat_cmp q)) fs ≡ cond (is_at (nat_cmp key) q) (Some v) (lookup (is_at (nat_cmp q)) es)

  module _ (es fs : SharedEntries Z) (key : ℕ) (v : Result (Rc Table Z) Error) (updates : Updates es fs key v) where
    -- entries that are updated at a key keep the new result there, and elsewhere what was kept before
    kept_at-update : (q : ℕ) → kept_at fs q ≡ cond (is_at (nat_cmp key) q) (Some (answer_of v)) (kept_at es q)
    kept_at-update q = grind (arith, updates q)

    -- entries that are updated at a key show the map with the new result inserted there
    pub shown-insert : shown fs ≡ insert (shown es) key (answer_of v)
    shown-insert = inserted (shown_entries es) (shown_entries fs) key (answer_of v) (λ q.
        lookup-map_values answer_of (is_at (nat_cmp q)) fs ∙ kept_at-update q
        ∙ ap (cond (is_at (nat_cmp key) q) (Some (answer_of v)))
        (sym (lookup-map_values answer_of (is_at (nat_cmp q)) es)))

  -- entries of which only the final ones are retained show the map that remains once the section has grown
  pub get-shown-final : (es fs : SharedEntries Z) → fs ≡ filter (λ entry. is_final (answer_of entry.1)) es
      → IsStrictlySortedBy nat_cmp (keys_of es) → (key : ℕ) → StillKept (get (shown es) key) (get (shown fs) key)
  get-shown-final es fs retained ordered key =
      let filtered = lookup-filter-values (eq_by_cmp_equiv nat_cmp_total) (λ v. is_final (answer_of v)) key es
      (IsDistinct-from_sorted nat_cmp _ ordered) in
      still_kept-is _ _ (rw (retained, get-shown, get-shown, filtered) (grind arith))
