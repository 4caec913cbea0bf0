-- Where the errors of tables are.
use Rattle.dwarf_read_core.proofs.Common.{◌≡◌, ◌≢◌, ◌⊎◌, inl, inr, ◌∙◌, ℕ, ◌<◌, ◌≤◌, List, length, Result, Ok, Err, refl, sym, arith, eof, end_of, Input, Error, Kind, unsigned64, unsigned16, signed64, overflow_error, Table, HasError, number_cut, number_bad, children_cut, tag_zero, children_bad, name_zero, form_zero, IsFirstError, in_declaration, repeated, Answer, outside, table, first_error, StrictAnswer, IsNotEof, strictly, by_null, by_end}
use Rattle.dwarf_reader_core.proofs.public.MissingFields.{eof-same}
use Rattle.dwarf_read_core.specs.Answer.{IsTableError, missing_bytes, bad_number, zero_tag, bad_children, zero_name, zero_form, same_code, unterminated}
use Rattle.dwarf_read_core.specs.Grammar.{Close}
use Rattle.dwarf_read_core.proofs.tables.TableErrors.{table_error}

-- ---- the errors of tables

-- the error of a bad number is no `UnexpectedEof`
overflow_is_no_end : (k : Kind) → IsNotEof (overflow_error k)
overflow_is_no_end unsigned64 position = λ same. grind arith
overflow_is_no_end unsigned16 position = λ same. grind arith
overflow_is_no_end signed64 position = λ same. grind arith

-- the error of bytes that begin like a declaration is that of missing bytes at the end, or no `UnexpectedEof`
error_at_end : {end : ℕ} {bytes : List ℕ} {e : Error} → HasError end bytes e → (e ≡ eof end) ⊎ IsNotEof e
error_at_end (number_cut front bytes k begins is) = inl refl
error_at_end (number_bad front bytes k begins is) = inr (overflow_is_no_end k)
error_at_end (children_cut front code tag is) = inl refl
error_at_end (tag_zero front tag rest code is zero) = inr (λ position same. grind arith)
error_at_end (children_bad front rest code tag byte is over) = inr (λ position same. grind arith)
error_at_end (name_zero front name form rest d f is zero number some) = inr (λ position same. grind arith)
error_at_end (form_zero front name form rest d n is number some zero) = inr (λ position same. grind arith)

-- so is the first error of bytes that don't begin with a table
pub first_at_end : {end : ℕ} {bytes : List ℕ} {e : Error} → IsFirstError end bytes e → (e ≡ eof end) ⊎ IsNotEof e
first_at_end (in_declaration bytes rest ds e are some is) = error_at_end is
first_at_end (repeated bytes declaration rest ds d are is twice) = inr (λ position same. grind arith)

-- an `UnexpectedEof` is at the section's start if the offset is past the end, and else at the end
pub data EndsAt (section : Input) (offset position : ℕ) : Type 0 where
  at_start : length section.bytes < offset → position ≡ section.position → EndsAt section offset position
  at_end : offset ≤ length section.bytes → position ≡ end_of section → EndsAt section offset position

-- the result is an `UnexpectedEof` at one of the two places, or no `UnexpectedEof`
pub answer_ends : {section : Input} {offset : ℕ} {r : Result Table Error} → Answer section offset r → (position : ℕ)
    → r ≡ Err (eof position) → EndsAt section offset position
answer_ends (outside lt) position same = at_start lt (eof-same (grind arith))
answer_ends (table t le is) position same = absurd (grind arith)
answer_ends {section} {offset} (first_error e le is) position same =
    let here : e ≡ eof position = grind arith in
    elim (first_at_end is) [
      | inl end ↦ at_end le (eof-same (sym here ∙ end))
      | inr other ↦ absurd (other position here)
    ]

-- where an `UnexpectedEof` in place of a table is
pub eof_ends : (section : Input) (offset position : ℕ) → Answer section offset (Err (eof position))
    → EndsAt section offset position
eof_ends section offset position is = answer_ends is position refl

-- ---- strict tables

-- what closes a table
pub close_cases : (close : Close) → (close ≡ by_null) ⊎ (close ≡ by_end)
close_cases by_null = inl refl
close_cases by_end = inr refl

-- no error in place of a table says that the table isn't closed
pub closed_or_other : {e : Error} → IsTableError e → (position : ℕ) → e ≢ unterminated position
closed_or_other (missing_bytes p) position same = grind arith
closed_or_other (bad_number unsigned64) position same = grind arith
closed_or_other (bad_number unsigned16) position same = grind arith
closed_or_other (bad_number signed64) position same = grind arith
closed_or_other zero_tag position same = grind arith
closed_or_other (bad_children byte) position same = grind arith
closed_or_other zero_name position same = grind arith
closed_or_other zero_form position same = grind arith
closed_or_other (same_code code) position same = grind arith

-- the strict error for a table that the section's end closes has the position of that end
unclosed_at_end : (section : Input) (t : Table) (position : ℕ)
    → Err (unterminated position) ≡ strictly section (Ok t) → position ≡ end_of section
unclosed_at_end section t position same = grind arith

-- the error for an unclosed table is at the section's end
pub unterminated_at_end : (section : Input) (offset position : ℕ) → StrictAnswer section offset (Err (unterminated position))
    → position ≡ end_of section
unterminated_at_end section offset position (Ok t, is, same) = unclosed_at_end section t position same
unterminated_at_end section offset position (Err e, is, same) =
    absurd (closed_or_other (table_error section offset e is) position (grind arith))
