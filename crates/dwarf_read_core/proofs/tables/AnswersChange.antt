-- Some appended zero bytes change each result that depends on where the section ends.
use Rattle.dwarf_read_core.proofs.Common.{◌≡◌, ◌≢◌, inl, inr, ℕ, ◌-◌, ◌<◌, ◌≤◌, List, [], ◌∷◌, ◌++◌, length, Result, Ok, Err, refl, subst, arith, append-nil, length-append, drop-append-le, eof, end_of, Input, Error, Table, closed, by_code_of, by_null, IsLeb128, unsigned64, IsTableBefore, closed_by_null, closed_by_end, Answer, outside, table, first_error, StrictAnswer, IsStrictlyFinal, IsFinal, followed_by}
use Rattle.std.proofs.Common.{replicate}
use Rattle.std.proofs.lemmas.List.{length-replicate}
use Rattle.dwarf_read_core.specs.Answer.{unterminated}
use Rattle.dwarf_read_core.proofs.contributions.ItemLists.{same_of_one}
use Rattle.dwarf_read_core.proofs.tables.ExactlyOneAnswer.{answer_exactly_one}
use Rattle.dwarf_read_core.proofs.tables.TableErrors.{table_error}
use Rattle.dwarf_read_core.proofs.tables.EndFaults.{at_start, at_end, first_at_end, eof_ends, close_cases, closed_or_other, unterminated_at_end}

-- ---- tables that the end closes

-- a zero byte is the code 0
zero_is_code : IsLeb128 unsigned64 (0 ∷ []) 0
zero_is_code = grind arith

-- bytes of a table that no code of value 0 closes are one that such a code closes when a zero byte follows
null_after : {bytes rest : List ℕ} {t : Table} → IsTableBefore bytes t rest → (t.close ≡ by_null → ⊥)
    → IsTableBefore (bytes ++ 0 ∷ []) (closed t.by_code by_null) []
null_after (closed_by_null bytes zero rest ds are is) unsettled = absurd (unsettled refl)
null_after (closed_by_end bytes ds are) unsettled =
    subst (λ (whole : List ℕ). IsTableBefore whole (closed (by_code_of ds) by_null) []) (append-nil (bytes ++ 0 ∷ []))
    (closed_by_null bytes (0 ∷ []) [] ds are zero_is_code)

-- a zero byte changes a table that no code of value 0 closes
null_changes : (section : Input) (offset : ℕ) (t : Table) → Answer section offset (Ok t) → (t.close ≡ by_null → ⊥)
    → Answer (followed_by section (0 ∷ [])) offset (Ok t) → ⊥
null_changes section offset _ (table t le is) unsettled stays =
    let longer = length-append section.bytes (0 ∷ []) in
    let null = null_after is.1 unsettled in
    let other : Answer (followed_by section (0 ∷ [])) offset (Ok (closed t.by_code by_null)) =
    table (closed t.by_code by_null) (omega (arith, le, longer))
    ([], rw (drop-append-le offset section.bytes (0 ∷ []) le) null) in
    let same = same_of_one (answer_exactly_one (followed_by section (0 ∷ [])) offset) stays other in
    unsettled (grind arith)

-- ---- errors

-- an `UnexpectedEof` at an offset within the section moves with each byte that is appended
end_moves : (section : Input) (offset : ℕ) → offset ≤ length section.bytes
    → Answer (followed_by section (0 ∷ [])) offset (Err (eof (end_of section))) → ⊥
end_moves section offset le stays =
    let longer = length-append section.bytes (0 ∷ []) in
    elim (eof_ends (followed_by section (0 ∷ [])) offset (end_of section) stays) [
      | at_start past there ↦ omega (arith, le, past, longer)
      | at_end within there ↦ omega (arith, there, longer)
    ]

-- an offset past the end comes inside
offset_comes_inside : (section : Input) (offset : ℕ) → length section.bytes < offset
    → Answer (followed_by section (replicate (offset - length section.bytes) 0)) offset (Err (eof section.position)) → ⊥
offset_comes_inside section offset past stays =
    let more : List ℕ = replicate (offset - length section.bytes) 0 in
    let longer = length-append section.bytes more in
    let long : length more ≡ offset - length section.bytes = length-replicate (offset - length section.bytes) 0 in
    elim (eof_ends (followed_by section more) offset section.position stays) [
      | at_start late there ↦ omega (arith, late, past, longer, long)
      | at_end within there ↦ omega (arith, there, past, longer, long)
    ]

-- some appended zero bytes change a result that isn't final
pub answer_changes : (section : Input) (offset : ℕ) (answer : Result Table Error) → Answer section offset answer
    → (IsFinal answer → ⊥)
    → (count : ℕ) × (Answer (followed_by section (replicate count 0)) offset answer → ⊥)
answer_changes section offset _ (outside past) unsettled =
    (offset - length section.bytes, offset_comes_inside section offset past)
answer_changes section offset _ (table t le is) unsettled = (1, null_changes section offset t (table t le is) unsettled)
answer_changes section offset _ (first_error e le is) unsettled =
    elim (first_at_end is) [
      | inl end ↦ (1, λ stays. end_moves section offset le (rw end at stays))
      | inr other ↦ absurd (unsettled other)
    ]

-- ---- strict results

-- the error for an unclosed table moves with each byte that is appended
unclosed_moves : (section : Input) (offset : ℕ)
    → StrictAnswer (followed_by section (0 ∷ [])) offset (Err (unterminated (end_of section))) → ⊥
unclosed_moves section offset stays =
    let there = unterminated_at_end (followed_by section (0 ∷ [])) offset (end_of section) stays in
    omega (arith, there, length-append section.bytes (0 ∷ []))

-- a strict error that isn't of an unclosed table is the error of the section
strict_error : (section : Input) (offset : ℕ) (e : Error) → ((position : ℕ) → e ≢ unterminated position)
    → StrictAnswer section offset (Err e) → Answer section offset (Err e)
strict_error section offset e other (Ok t, is, same) =
    elim (close_cases t.close) [
      | inl null ↦ absurd (grind arith)
      | inr end ↦ absurd (other (end_of section) (grind arith))
    ]
strict_error section offset e other (Err f, is, same) = let equal : f ≡ e = grind arith in rw (← equal) is

-- some appended zero bytes change a strict result that isn't final
pub strict_answer_changes : (section : Input) (offset : ℕ) (strict : Result Table Error)
    → StrictAnswer section offset strict → (IsStrictlyFinal strict → ⊥)
    → (count : ℕ) × (StrictAnswer (followed_by section (replicate count 0)) offset strict → ⊥)
strict_answer_changes section offset (Ok t) is unsettled = absurd (unsettled tt)
strict_answer_changes section offset (Err e) (Ok t, is, same) unsettled =
    elim (close_cases t.close) [
      | inl null ↦ absurd (grind arith)
      | inr end ↦
          let unclosed : e ≡ unterminated (end_of section) = grind arith in
          (1, λ stays. unclosed_moves section offset (rw unclosed at stays))
    ]
strict_answer_changes section offset (Err e) (Err f, is, same) unsettled =
    let equal : f ≡ e = grind arith in
    let here : Answer section offset (Err e) = rw (← equal) is in
    let other = closed_or_other (table_error section offset e here) in
    let (count, changes) = answer_changes section offset (Err e) here (λ final. unsettled (final, other)) in
    (count, λ stays. changes (strict_error (followed_by section (replicate count 0)) offset e other stays))
