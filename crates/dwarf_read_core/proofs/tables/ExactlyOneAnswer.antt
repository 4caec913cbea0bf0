-- A section has exactly one result at each offset, and the parser returns it.
use Rattle.dwarf_read_core.proofs.Common.{common_steps, ◌≡◌, ◌≢◌, ℕ, ◌+◌, ◌≤◌, cond, ltb, List, length, drop, None, Result, Ok, Err, IfErr, refl, sym, arith, inl, inr, lt-ltb, le-ltb, empty, length-drop, nil_from_length, Error, OutOfMemory, Input, end_of, Takes, eof_here, IsTooShort, HasOutcome, returned, failed, IsTable, HasOne, Answer, Answers, IsFirstError, TakesNoMemory, outside, table, first_error, declaration_at, table_in, cases_lt}
use Rattle.std.specs.Result.{IsErrAnd}
use Rattle.dwarf_reader_core.proofs.public.Consuming.{end_of-after}
use Rattle.dwarf_read_core.proofs.tables.ReadingIsComplete.{zero_again, end_again}
use Rattle.dwarf_read_core.proofs.tables.ReadingTables.{TableRead}
use Rattle.dwarf_read_core.proofs.tables.TablesAreRead.{begins_with_none, table_after, table_read_again, first_error_again}

-- what the functions read at an offset of a section
unfoldable pub answer_at : Input → ℕ → TableRead
answer_at section offset =
    cond (ltb (length section.bytes) offset) (Err (eof_here section))
    (table_in (end_of section) empty (drop offset section.bytes))

-- what the functions read at an offset is a result that the section has there
pub is_answer : (section : Input) (offset : ℕ) → Answer section offset (answer_at section offset)
unfolding answer_at table_in
is_answer section offset = elim (cases_lt (length section.bytes) offset) [
  | inl lt ↦ rw (lt-ltb (length section.bytes) offset lt) (outside lt)
  | inr le ↦ rw (le-ltb (length section.bytes) offset le) (read le
      (table_after (length bytes + 1) (end_of section) bytes bytes empty (begins_with_none bytes) (omega arith)))
]
  where
    bytes : List ℕ
    bytes = drop offset section.bytes

    read : {r : TableRead} → offset ≤ length section.bytes
        → HasOutcome (IsTable bytes) (IsFirstError (end_of section) bytes) r → Answer section offset r
    read le (returned t is) = table t le is
    read le (failed e is) = first_error e le is

-- every result that a section has at an offset is what the functions read there
pub answer-same : {section : Input} {offset : ℕ} {r : TableRead} → Answer section offset r
    → answer_at section offset ≡ r
unfolding answer_at
answer-same {section} {offset} (outside lt) = rw (lt-ltb (length section.bytes) offset lt) refl
answer-same {section} {offset} (table t le is) =
    rw (le-ltb (length section.bytes) offset le, table_read_again (end_of section) is) refl
answer-same {section} {offset} (first_error e le is) =
    rw (le-ltb (length section.bytes) offset le, first_error_again is) refl

-- what is read after the offset is the section's result there
pub answer_read : (r : TableRead) (section : Input) (offset : ℕ) (rest : Input) → Takes offset section rest
    → table_in (end_of rest) empty rest.bytes ≡ r → Answer section offset r
unfolding answer_at
answer_read r section offset rest takes read =
    grind (arith, is_answer section offset, end_of-after offset section takes.enough)

-- an error that `?` propagates is the section's result at the offset, if it is read there, unless memory ran out
pub error_read : {X : Type 0} (r : Result X Error) (e : Error) (section : Input) (offset : ℕ) (rest : Input)
    → IsErrAnd r (λ x. x ≡ e) → Takes offset section rest
    → (e ≢ OutOfMemory → table_in (end_of rest) empty rest.bytes ≡ Err e)
    → IfErr r (λ x. Answers (Err x) section offset)
error_read r e section offset rest is takes read =
    let answer = answer_read (Err e) section offset rest takes in grind arith

-- a section has exactly one result at each offset
pub answer_exactly_one : (section : Input) (offset : ℕ) → HasOne (Answer section offset)
answer_exactly_one section offset = (answer_at section offset, is_answer section offset, λ s a. sym (answer-same a))

-- the error of skipping to an offset past the section's end is the section's result there
pub outside_of : (section : Input) (offset : ℕ) (e : Error) (new : Input) → IsTooShort offset section e new
    → Answer section offset (Err e)
outside_of section offset e new short = rw short.fault (outside short.short)

-- no declaration is read at an offset that needs no memory: at the end, past it, or at a code of value 0
pub nothing_declared : (end : ℕ) (section : Input) (offset : ℕ) (rest : List ℕ) → TakesNoMemory section offset
    → rest ≡ drop offset section.bytes → (following : List ℕ) × (declaration_at end rest ≡ Ok (None, following))
nothing_declared end section offset rest (inl past) is =
    grind (arith, common_steps, nil_from_length, length-drop, end_again)
nothing_declared end section offset rest (inr z) is = grind (arith, zero_again)
