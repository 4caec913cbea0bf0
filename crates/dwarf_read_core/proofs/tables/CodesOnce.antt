-- The map of a table has the codes of its declarations, and each code occurs once.
use Rattle.dwarf_read_core.proofs.Common.{◌≡◌, ◌≢◌, ℕ, suc, ◌<◌, ◌==◌, true, false, List, [], ◌∷◌, ◌++◌, map, None, Some, Ok, get, Input, Sequence, IsDeclaration, Table, IsTable, Answer, table, sym, ◌∙◌, arith, nat_cmp, nat_cmp_total, find, insert, contains_key, from_entries_push, get-from_entries, nat_cmp-IsAntisymmetric, true≢false, map_push, All, AllPairs, Any, length, length-append, get_or, get_or_default, eqb-true, ne_eqb, Declaration, by_code_of, nat_tests}
use Rattle.std.specs.FinMap.{gets}
use Rattle.std.proofs.Math.ListN.{get_or-append}
use Rattle.std.proofs.Math.Seq.{get_or-append_seam}
use Rattle.std.specs.List.{list_any}
use Rattle.std.proofs.lemmas.List.Folds.{Any-from_list_any, list_any_at, list_any_none}
use Rattle.std.proofs.lemmas.List.Quantifiers.{all_pairs_push}

-- declarations with their codes, as entries of a map
abbrev pub entries_by_code : List Declaration → List (ℕ × Declaration)
entries_by_code ds = map (λ d. (d.code, d)) ds

-- the map of declarations has a code exactly if one of them has it
key_is_any : (ds : List Declaration) (code : ℕ)
    → contains_key (by_code_of ds) code ≡ list_any (λ d. d.code == code) ds
key_is_any [] code = grind (arith, gets)
key_is_any (x ∷ ds) code = grind (arith, nat_tests, gets, (key_is_any ds code))

-- the map of declarations lacks a code that none of them has
fresh_code : (ds : List Declaration) (code : ℕ) → All (λ d. d.code ≢ code) ds
    → contains_key (by_code_of ds) code ≡ false
fresh_code ds code none =
    key_is_any ds code
    ∙ list_any_none (λ d. d.code == code) ds (λ k d within. ne_eqb (get_or ds k d).code code (none k d within))

-- the map of declarations has a code that one of them has
pub repeated_code : (ds : List Declaration) (code : ℕ) → Any (λ d. d.code ≡ code) ds
    → contains_key (by_code_of ds) code ≡ true
repeated_code ds code (k, d, within, at, same) =
    key_is_any ds code ∙ list_any_at (λ d. d.code == code) ds k d within (grind (arith, nat_tests))

-- if the map of declarations has a code, a declaration has it
pub declared_from_key : (ds : List Declaration) (code : ℕ) → contains_key (by_code_of ds) code ≡ true
    → Any (λ d. d.code ≡ code) ds
declared_from_key ds code has =
    let (k, d, within, at, same) = Any-from_list_any (λ d. d.code == code) ds (sym (key_is_any ds code) ∙ has) in
    (k, d, within, at, eqb-true d.code code same)

-- one more declaration with a new code is an insertion into the map of declarations
pub table_push : (ds : List Declaration) (d : Declaration) → contains_key (by_code_of ds) d.code ≡ false
    → by_code_of (ds ++ d ∷ []) ≡ insert (by_code_of ds) d.code d
table_push ds d new =
    let none : find nat_cmp d.code (entries_by_code ds) ≡ None =
    grind (arith, new, (get-from_entries nat_cmp_total (entries_by_code ds) d.code)) in
    rw (map_push {Y = ℕ × Declaration} (λ (x : Declaration). (x.code, x)) ds d)
    (from_entries_push nat_cmp_total nat_cmp-IsAntisymmetric (entries_by_code ds) d.code d none)

-- declarations with distinct codes still have distinct codes with one more whose code is new
pub distinct_push : (ds : List Declaration) (d : Declaration) → AllPairs (λ d later. d.code ≢ later.code) ds
    → contains_key (by_code_of ds) d.code ≡ false → AllPairs (λ d later. d.code ≢ later.code) (ds ++ d ∷ [])
distinct_push ds d h new =
    all_pairs_push (λ d later. d.code ≢ later.code) ds d h
    (λ k none within same. true≢false
    (sym (repeated_code ds d.code (k, get_or ds k none, within, get_or_default ds k _ none within, same)) ∙ new))

-- of declarations with distinct codes, the map of those before another lacks its code
pub distinct_front : (ds more : List Declaration) (d : Declaration)
    → AllPairs (λ d later. d.code ≢ later.code) (ds ++ d ∷ more) → contains_key (by_code_of ds) d.code ≡ false
distinct_front ds more d h =
    fresh_code ds d.code
    (λ k none within same. h k (length ds) none within (omega (arith, length-append ds (d ∷ more)))
    (grind (arith, (get_or-append ds (d ∷ more) none k within), (get_or-append_seam ds d more none))))

-- of declarations with distinct codes, the map of those after the first lacks its code, and they have distinct codes
pub distinct_rest : (d : Declaration) (ds : List Declaration) → AllPairs (λ d later. d.code ≢ later.code) (d ∷ ds)
    → (contains_key (by_code_of ds) d.code ≡ false) × AllPairs (λ d later. d.code ≢ later.code) ds
distinct_rest d ds h = (
  fresh_code ds d.code (λ k none within same. h 0 (suc k) none (omega arith) (omega (arith, within)) (sym same)),
  λ i j none before within. h (suc i) (suc j) none (omega (arith, before)) (omega (arith, within)),
)

-- ---- keys

-- a declaration that a search finds by a code has that code, which isn't 0
found_by_code : (bytes : List ℕ) (ds : List Declaration) (code : ℕ) (d : Declaration) → Sequence IsDeclaration bytes ds
    → find nat_cmp code (entries_by_code ds) ≡ Some d → (d.code ≡ code) × (0 < code)
found_by_code bytes [] code d are is = absurd cc
found_by_code bytes (x ∷ ds) code d (_, rest, _, first, others) is =
    grind (arith, nat_tests, (found_by_code rest ds code d others), first.is_front.is_head.is_code.nonzero)

-- a table has each declaration by its code, which isn't 0
found_in_bytes : (bytes : List ℕ) (t : Table) (code : ℕ) (d : Declaration) → IsTable bytes t
    → get t.by_code code ≡ Some d → (d.code ≡ code) × (0 < code)
found_in_bytes bytes t code d is found =
    grind (arith, found_by_code, (get-from_entries {X = Declaration} nat_cmp_total))

-- no table has code 0, and each declaration is found by its own code
pub code_is_key : (section : Input) (offset code : ℕ) (t : Table) (d : Declaration) → Answer section offset (Ok t)
    → get t.by_code code ≡ Some d → (d.code ≡ code) × (0 < code)
code_is_key section offset code _ d (table t within is) found = found_in_bytes _ t code d is found
