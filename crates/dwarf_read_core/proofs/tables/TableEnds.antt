-- Where a table ends: at one offset, which stays when bytes are appended.
use Rattle.dwarf_read_core.proofs.Common.{◌≡◌, ℕ, ◌-◌, ◌<◌, List, [], ◌∷◌, ◌++◌, length, Some, None, Ok, refl, ap, arith, append_assoc, length-append, length-drop, drop-append-le, Input, followed_by, Declaration, Table, by_null, Sequence, IsDeclaration, IsLeb128, unsigned64, IsTableBefore, closed_by_null, closed_by_end, HasOne, Answer, table, declaration_at}
use Rattle.dwarf_read_core.specs.Answer.{TableEndsAt}
use Rattle.dwarf_read_core.proofs.tables.AppendedBytes.{table_more}
use Rattle.dwarf_read_core.proofs.tables.ReadingIsComplete.{declaration_again, zero_again}
use Rattle.dwarf_read_core.proofs.tables.TablesAreRead.{table_before_fits, table_before_takes}

-- bytes begin with declarations and a code of value 0, and the rest remains
record IsClosed (bytes rest : List ℕ) (ds : List Declaration) : Type 0 where
  front : List ℕ
  zero_code : List ℕ
  parts : bytes ≡ front ++ zero_code ++ rest
  are : Sequence IsDeclaration front ds
  encodes : IsLeb128 unsigned64 zero_code 0

-- the code of value 0 is read if no declaration is before it
zero_read : {bytes rest : List ℕ} → IsClosed bytes rest [] → declaration_at 0 bytes ≡ Ok (None, rest)
zero_read {rest = rest} h = rw (h.parts, h.are) (zero_again 0 h.zero_code rest h.encodes)

-- the first declaration is read, and the others are after it
first_read : {bytes rest : List ℕ} {d : Declaration} {ds : List Declaration} → IsClosed bytes rest (d ∷ ds)
    → (following : List ℕ) × (declaration_at 0 bytes ≡ Ok (Some d, following)) × IsClosed following rest ds
first_read {rest = rest} {d} h =
    let (first, tail, parts, is, others) = h.are in (
      tail ++ h.zero_code ++ rest,
      rw (h.parts, parts) (simp append_assoc (declaration_again 0 first (tail ++ (h.zero_code ++ rest)) d is)),
      record { front = tail; zero_code = h.zero_code; parts = refl; are = others; encodes = h.encodes },
    )

-- after declarations and a code of value 0 one rest remains
closed-rest_same : (bytes : List ℕ) {rest following : List ℕ} (ds es : List Declaration) → IsClosed bytes rest ds
    → IsClosed bytes following es → rest ≡ following
closed-rest_same bytes [] [] a b = grind (arith, zero_read a, zero_read b)
closed-rest_same bytes [] (e ∷ es) a b = grind (arith, zero_read a, (first_read b).1)
closed-rest_same bytes (d ∷ ds) [] a b = grind (arith, (first_read a).1, zero_read b)
closed-rest_same bytes {following = following} (d ∷ ds) (e ∷ es) a b =
    let x = first_read a in
    let y = first_read b in
    let same : y.0 ≡ x.0 = grind (arith, x.1, y.1) in
    closed-rest_same x.0 ds es x.2 (rw same at y.2)

-- after two tables of the same bytes that close alike, one rest remains
rest_same : {bytes others rest following : List ℕ} {t u : Table} → bytes ≡ others → t.close ≡ u.close
    → IsTableBefore bytes t rest → IsTableBefore others u following → rest ≡ following
rest_same same close (closed_by_null bytes zero rest ds are is) (closed_by_null others code following es each ends) =
    closed-rest_same _ ds es (record { front = bytes; zero_code = zero; parts = refl; are = are.each; encodes = is })
    (record { front = others; zero_code = code; parts = same; are = each.each; encodes = ends })
rest_same same close (closed_by_null _ _ _ _ _ _) (closed_by_end _ _ _) = absurd cc
rest_same same close (closed_by_end _ _ _) (closed_by_null _ _ _ _ _ _) = absurd cc
rest_same same close (closed_by_end _ _ _) (closed_by_end _ _ _) = refl

-- a table at an offset ends at exactly one offset
pub end_exactly_one : (section : Input) (offset : ℕ) (t : Table) → Answer section offset (Ok t)
    → HasOne (TableEndsAt section offset t)
end_exactly_one section offset _ (table t le is) =
    let fits = table_before_fits is.1 in
    let long = length-drop offset section.bytes in (
      length section.bytes - length is.0,
      (is.0, is.1, omega (arith, fits, long)),
      λ other h. omega (arith, fits, long, h.2, ap length (rest_same refl refl h.1 is.1)),
    )

-- a table that a code of value 0 closes ends there too when bytes are appended
pub end_more : (section : Input) (more : List ℕ) (offset end : ℕ) (t : Table) → Answer section offset (Ok t)
    → t.close ≡ by_null → TableEndsAt section offset t end → TableEndsAt (followed_by section more) offset t end
end_more section more offset end _ (table t le is) final (rest, before, sum) = (
  rest ++ more,
  rw (drop-append-le offset section.bytes more le) (table_more more before final),
  omega (arith, sum, length-append rest more, length-append section.bytes more),
)

-- a table that begins before the section's end takes at least one byte
pub end_after : (section : Input) (offset end : ℕ) (t : Table) → offset < length section.bytes
    → TableEndsAt section offset t end → offset < end
end_after section offset end t before (rest, is, sum) =
    let long = length-drop offset section.bytes in
    omega (arith, table_before_takes is (omega (arith, before, long)), sum, long)

-- where a table ends
pub ruleset ends = (end_exactly_one, end_more)
