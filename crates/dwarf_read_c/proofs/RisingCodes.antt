-- Rows whose codes rise are declarations in the order of their map.
use Rattle.std.proofs.Common.{Some, append_assoc, get_or, take-append-drop}
use Rattle.std.specs.FinMap.{contains_key, gets}
use Rattle.std.specs.List.{AllByRecursion}
unfoldable use Rattle.std.specs.List.Sorted.{IsStrictlySortedBy}
use Rattle.std.specs.Map.{keys_of}
use Rattle.std.specs.Ordering.{nat_cmp}
use Rattle.std.specs.Prelude.{slice_get}
use Rattle.std.proofs.lemmas.Bool.Decides.{nat_tests}
use Rattle.std.proofs.lemmas.List.{take_more}
use Rattle.std.proofs.Common.{Less}
use Rattle.dwarf_read_core.specs.Grammar.{by_code_of, Specification}
use Rattle.dwarf_read_core.proofs.public.Tables.{entries_kept}
use Rattle.dwarf_read_c.specs.Laid.{AreRising, last_code, laid_out}
use Rattle.dwarf_read_c.specs.declared.rows.DwarfAbbreviation.{DwarfAbbreviation}
use Rattle.dwarf_read_c.proofs.Common.{◌≡◌, ◌∙◌, false, ℕ, ◌+◌, ◌-◌, ◌<◌, ◌≤◌, List, [], ◌∷◌, ◌++◌, length, map, take, drop, refl, sym, ap, subst, arith, values, Declaration}

-- the last of rising codes is the greatest, and at least as great as the bound
last-greatest : (below : ℕ) (rows : List DwarfAbbreviation) → AreRising below rows → below ≤ last_code below rows
last-greatest below [] h = omega arith
last-greatest below (a ∷ rows) h = omega (arith, last-greatest a.code rows h.1, h.0)

-- the map of declarations whose codes rise lacks a code above the last
pub rising-fresh : (attributes : List Specification) (below code : ℕ) (rows : List DwarfAbbreviation)
    → AreRising below rows → last_code below rows < code
    → contains_key (by_code_of (laid_out attributes rows)) code ≡ false
rising-fresh attributes below code [] h above = grind (arith, gets)
rising-fresh attributes below code (a ∷ rows) h above =
    grind (
      arith,
      nat_tests,
      gets,
      (last-greatest a.code rows h.1),
      (rising-fresh attributes a.code code rows h.1 above),
    )

-- codes still rise with one more above the last
pub rising-push : (below : ℕ) (rows : List DwarfAbbreviation) (a : DwarfAbbreviation) → AreRising below rows
    → last_code below rows < a.code → AreRising below (rows ++ a ∷ [])
rising-push below [] a h above = (above, tt)
rising-push below (x ∷ rows) a h above = (h.0, rising-push x.code rows a h.1 above)

-- of rising codes the first rise, and the next is above these
pub rising-front : (below : ℕ) (rows more : List DwarfAbbreviation) (a : DwarfAbbreviation)
    → AreRising below (rows ++ a ∷ more) → AreRising below rows × (last_code below rows < a.code)
rising-front below [] more a h = (tt, h.0)
rising-front below (x ∷ rows) more a h = let front = rising-front x.code rows more a h.1 in ((h.0, front.0), front.1)

-- of rising codes those before an index rise, and that of the row at the index is above these
pub rising-at : (rows : List DwarfAbbreviation) (i : ℕ) (none : DwarfAbbreviation) → AreRising 0 rows → i < length rows
    → AreRising 0 (take i rows) × (last_code 0 (take i rows) < (get_or rows i none).code)
rising-at rows i none rising within =
    let row = get_or rows i none in
    let parts : rows ≡ take i rows ++ row ∷ drop (i + 1) rows =
    sym (take-append-drop (i + 1) rows)
    ∙ ap (λ (front : List DwarfAbbreviation). front ++ drop (i + 1) rows) (take_more rows i none within)
    ∙ append_assoc (take i rows) (row ∷ []) (drop (i + 1) rows) in
    rising-front 0 (take i rows) (drop (i + 1) rows) row (subst (AreRising 0) parts rising)

-- rising codes compare as greater than any number up to the bound
rising-greater : (attributes : List Specification) (k below : ℕ) (rows : List DwarfAbbreviation) → k ≤ below
    → AreRising below rows
    → AllByRecursion (λ y. nat_cmp k y ≡ Less) (keys_of (map (λ d. (d.code, d)) (laid_out attributes rows)))
rising-greater attributes k below [] le h = tt
rising-greater attributes k below (a ∷ rows) le h =
    (grind (arith, nat_tests, h.0), rising-greater attributes k a.code rows (omega (arith, h.0)) h.1)

-- declarations whose codes rise are sorted as entries
rising-sorted : (attributes : List Specification) (below : ℕ) (rows : List DwarfAbbreviation) → AreRising below rows
    → IsStrictlySortedBy nat_cmp (keys_of (map (λ d. (d.code, d)) (laid_out attributes rows)))
unfolding IsStrictlySortedBy
rising-sorted attributes below [] h = tt
rising-sorted attributes below (a ∷ rows) h =
    (rising-greater attributes a.code a.code rows (omega arith) h.1, rising-sorted attributes a.code rows h.1)

-- the values of entries with their codes are the declarations
values-again : (ds : List Declaration) → map (λ (e : ℕ × Declaration). e.1) (map (λ d. (d.code, d)) ds) ≡ ds
values-again [] = refl
values-again (d ∷ ds) = ap (λ (ds : List Declaration). d ∷ ds) (values-again ds)

-- declarations whose codes rise are the values of their map
pub rising-values : (attributes : List Specification) (rows : List DwarfAbbreviation) → AreRising 0 rows
    → values (by_code_of (laid_out attributes rows)) ≡ laid_out attributes rows
rising-values attributes rows h =
    let ds = laid_out attributes rows in
    ap (map (λ (e : ℕ × Declaration). e.1))
    (entries_kept (map (λ d. (d.code, d)) ds) (rising-sorted attributes 0 rows h)) ∙ values-again ds

-- the last code of rows is that of the last row
pub last-code-of-row : (below : ℕ) (rows : List DwarfAbbreviation) (row : DwarfAbbreviation)
    → slice_get rows (length rows - 1) ≡ Some row → last_code below rows ≡ row.code
last-code-of-row below [] row found = absurd cc
last-code-of-row below (r ∷ []) row found = grind arith
last-code-of-row below (r ∷ s ∷ rows) row found = last-code-of-row r.code (s ∷ rows) row (grind (arith, found))
