-- A table ends where the shortest front of the section ends that has it.
use Rattle.dwarf_read_core.proofs.Common.{◌≡◌, ◌↔◌, inl, inr, ◌∙◌, ℕ, ◌+◌, ◌-◌, ◌<◌, ◌≤◌, List, [], ◌∷◌, ◌++◌, length, take, drop, Ok, Some, refl, sym, ap, subst, arith, append_assoc, append-nil, length-append, length-drop, drop-append-le, take-append-drop, cases_lt, Input, first, Declaration, Sequence, IsDeclaration, AreDeclarations, Table, closed, by_code_of, by_null, by_end, IsTable, IsTableBefore, closed_by_null, closed_by_end, Answer, table, followed_by, declaration_at, len, take-append-le, take_all}
use Rattle.dwarf_read_core.specs.Answer.{TableEndsAt}
use Rattle.dwarf_read_core.proofs.tables.ReadingIsComplete.{declaration_again}
use Rattle.dwarf_read_core.proofs.tables.EndFaults.{close_cases}
use Rattle.dwarf_read_core.proofs.tables.TableEnds.{end_exactly_one, end_more}
use Rattle.dwarf_read_core.proofs.tables.TableBounds.{len_is}
use Rattle.dwarf_read_core.proofs.tables.TablesAreRead.{table_before_fits}
use Rattle.std.proofs.lemmas.List.{drop-take}
use Rattle.dwarf_reader_core.specs.Appended.{IsShortestFront}
use Rattle.dwarf_reader_core.proofs.public.Fronts.{first_long}

-- declarations and more bytes are more declarations
more_declared : (bytes more : List ℕ) (ds es : List Declaration) → Sequence IsDeclaration bytes ds
    → Sequence IsDeclaration (bytes ++ more) es → 0 < length more → length ds < length es
more_declared bytes more [] [] none nothing some = absurd (let long = length-append bytes more in
    let zero = ap length nothing in omega (arith, long, zero, some))
more_declared bytes more [] (e ∷ es) none are some = omega arith
more_declared bytes more (d ∷ ds) [] are nothing some = absurd (let long = length-append bytes more in
    let zero = ap length nothing in omega (arith, long, zero, some))
more_declared bytes more (d ∷ ds) (e ∷ es) (front, rest, parts, is, are) (other, following, pieces, has, others) some =
    let one : declaration_at 0 (bytes ++ more) ≡ Ok (Some d, rest ++ more) =
    rw parts (simp append_assoc (declaration_again 0 front (rest ++ more) d is)) in
    let two : declaration_at 0 (bytes ++ more) ≡ Ok (Some e, following) =
    rw pieces (declaration_again 0 other following e has) in
    let same : following ≡ rest ++ more = grind (arith, one, two) in
    omega (arith, more_declared rest more ds es are (rw same at others) some)

-- a table that the end of a front closes isn't the table of more bytes
closed_later : (bytes more : List ℕ) (ds es : List Declaration) → AreDeclarations bytes ds
    → AreDeclarations (bytes ++ more) es → by_code_of ds ≡ by_code_of es → 0 < length more → ⊥
closed_later bytes more ds es are others same some =
    let longer = more_declared bytes more ds es are.each others.each some in
    let counted = ap len same in
    omega (arith, longer, counted, len_is ds are.distinct, len_is es others.distinct)

-- the front up to where a table ends has the table
front_before : {bytes rest : List ℕ} {t : Table} (n : ℕ) → IsTableBefore bytes t rest → n + length rest ≡ length bytes
    → IsTable (take n bytes) t
front_before n (closed_by_null bytes zero_code rest ds are is) sum =
    let whole = bytes ++ zero_code in
    let all : n ≡ length whole = omega (arith, sum, length-append whole rest) in
    let front : take n (whole ++ rest) ≡ whole =
    ap (λ k. take k (whole ++ rest)) all ∙ take-append-le (length whole) whole rest (omega arith)
    ∙ take_all (length whole) whole (omega arith) in
    let table : IsTableBefore (whole ++ []) (closed (by_code_of ds) by_null) [] =
    closed_by_null bytes zero_code [] ds are is in
    ([], rw front (rw append-nil at table))
front_before n (closed_by_end bytes ds are) sum =
    ([], rw (take_all n bytes (omega (arith, sum))) (closed_by_end bytes ds are))

-- bytes and a front of them aren't the same table if the end closes both
closed-same : {bytes others rest following : List ℕ} {t : Table} (more : List ℕ) → IsTableBefore bytes t rest
    → IsTableBefore others t following → t.close ≡ by_end → others ≡ bytes ++ more → 0 < length more → ⊥
closed-same {t = t} more a b unsettled longer some =
    go a refl b refl unsettled longer
  where
    go : {bytes others rest following : List ℕ} {u v : Table} → IsTableBefore bytes u rest → u ≡ t
        → IsTableBefore others v following → v ≡ t → t.close ≡ by_end → others ≡ bytes ++ more → ⊥
    go (closed_by_null _ _ _ _ _ _) is other same unsettled longer = let close = ap (λ (u : Table). u.close) is in absurd cc
    go (closed_by_end _ _ _) is (closed_by_null _ _ _ _ _ _) same unsettled longer =
        let close = ap (λ (u : Table). u.close) same in absurd cc
    go (closed_by_end bytes ds are) is (closed_by_end others es each) same unsettled longer =
        closed_later bytes more ds es are (rw longer at each) (ap (λ (u : Table). u.by_code) (is ∙ sym same)) some

-- the bytes of a front and those after it
front_and_rest : (section : Input) (m : ℕ) → followed_by (first m section) (drop m section.bytes) ≡ section
front_and_rest section m =
    ap (λ bytes. let whole : Input = record section { bytes = bytes } in whole) (take-append-drop m section.bytes)

-- the offset of a table is within the section
offset_within : (section : Input) (offset : ℕ) (t : Table) → Answer section offset (Ok t)
    → (offset ≤ length section.bytes) × IsTable (drop offset section.bytes) t
offset_within section offset _ (table t le is) = (le, is)

-- no front that is shorter than a table that a code of value 0 closes has it
null_front : (section : Input) (offset end : ℕ) (t : Table) → Answer section offset (Ok t)
    → TableEndsAt section offset t end → t.close ≡ by_null → (m : ℕ) → m < end
    → Answer (first m section) offset (Ok t) → ⊥
null_front section offset end t is ends final m below early =
    let there = (end_exactly_one (first m section) offset t early).0 in
    let has = (end_exactly_one (first m section) offset t early).1 in
    let more = end_more (first m section) (drop m section.bytes) offset there t early final has in
    let same : TableEndsAt section offset t there =
    subst (λ (whole : Input). TableEndsAt whole offset t there) (front_and_rest section m) more in
    let one = (end_exactly_one section offset t is).2 in
    let sum = ends.2 in
    omega (arith, one there same, one end ends, has.2, first_long m section (omega (arith, below, sum)), below)

-- no front has a table that the section's end closes
end_front : (section : Input) (offset : ℕ) (t : Table) → Answer section offset (Ok t) → t.close ≡ by_end → (m : ℕ)
    → m < length section.bytes → Answer (first m section) offset (Ok t) → ⊥
end_front section offset t is unsettled m below early =
    let long = first_long m section (omega (arith, below)) in
    let whole = (offset_within section offset t is).1 in
    let within = (offset_within (first m section) offset t early).0 in
    let front = (offset_within (first m section) offset t early).1 in
    let parts : drop offset section.bytes ≡ drop offset (take m section.bytes) ++ drop m section.bytes =
    ap (drop offset) (sym (take-append-drop m section.bytes))
    ∙ drop-append-le offset (take m section.bytes) (drop m section.bytes) within in
    closed-same (drop m section.bytes) front.1 whole.1 unsettled parts (omega (arith, length-drop m section.bytes, below))

-- a table ends where the shortest front ends that has it
pub front_of_end : (section : Input) (offset end : ℕ) (t : Table) → Answer section offset (Ok t)
    → TableEndsAt section offset t end → IsShortestFront (λ front. Answer front offset (Ok t)) section end
front_of_end section offset end t is (rest, before, sum) =
    let within = (offset_within section offset t is).0 in
    let fits = table_before_fits before in
    let long = length-drop offset section.bytes in
    let enough : end ≤ length section.bytes = omega (arith, sum) in
    let late : offset ≤ end = omega (arith, sum, fits, long, within) in
    let split : end ≡ offset + (end - offset) = omega (arith, late) in
    let parts : drop offset (take end section.bytes) ≡ take (end - offset) (drop offset section.bytes) =
    ap (λ n. drop offset (take n section.bytes)) split ∙ drop-take offset (end - offset) section.bytes in
    let has : Answer (first end section) offset (Ok t) =
    table t (omega (arith, first_long end section enough, late))
    (rw parts (front_before (end - offset) before (omega (arith, sum, long, late, within)))) in
    let none : (m : ℕ) → m < end → Answer (first m section) offset (Ok t) → ⊥ = λ m below early.
    elim (close_cases t.close) [
      | inl final ↦ null_front section offset end t is (rest, before, sum) final m below early
      | inr unsettled ↦ end_front section offset t is unsettled m (omega (arith, enough, below)) early
    ] in
    (enough, has, none)

-- and where the shortest front ends that has it, a table ends
pub end_of_front : (section : Input) (offset end : ℕ) (t : Table) → Answer section offset (Ok t)
    → IsShortestFront (λ front. Answer front offset (Ok t)) section end → TableEndsAt section offset t end
end_of_front section offset end t is (enough, has, none) =
    let (there, ends, one) = end_exactly_one section offset t is in
    let (fits, early, nothing) = front_of_end section offset there t is ends in
    let same : end ≡ there = elim (cases_lt end there) [
      | inl before ↦ absurd (nothing end before has)
      | inr after ↦
          elim (cases_lt there end) [
            | inl before ↦ absurd (none there before early)
            | inr equal ↦ omega (arith, after, equal)
          ]
    ] in
    rw same ends

-- a table ends exactly where the shortest front ends that has it
pub ends_at_front : (section : Input) (offset end : ℕ) (t : Table) → Answer section offset (Ok t)
    → TableEndsAt section offset t end ↔ IsShortestFront (λ front. Answer front offset (Ok t)) section end
ends_at_front section offset end t is = (front_of_end section offset end t is, end_of_front section offset end t is)
