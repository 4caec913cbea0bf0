-- Appended bytes change no result that is final.
use Rattle.dwarf_read_core.proofs.Common.{◌≡◌, ℕ, List, ◌∷◌, ◌++◌, Result, append_assoc, arith, length-append, drop-append-le, Input, Error, Table, by_null, IsTableBefore, closed_by_null, closed_by_end, followed_by, IsNotEof, HasError, number_bad, tag_zero, children_bad, name_zero, form_zero, IsFirstError, in_declaration, repeated, Answer, outside, table, first_error, end_of, IsFinal, Answers}
use Rattle.dwarf_reader_core.proofs.public.BadNumbers.{bad_more}
use Rattle.dwarf_read_core.proofs.contributions.ItemLists.{bytes-still_some}

-- bytes that begin with a table that a code of value 0 closes still do with more bytes after them
pub table_more : {bytes rest : List ℕ} {t : Table} (more : List ℕ) → IsTableBefore bytes t rest → t.close ≡ by_null
    → IsTableBefore (bytes ++ more) t (rest ++ more)
table_more more (closed_by_null bytes zero_code rest ds are is) final =
    rw (append_assoc (bytes ++ zero_code) rest more) (closed_by_null bytes zero_code (rest ++ more) ds are is)
table_more more (closed_by_end bytes ds are) final = absurd cc

-- an error in a declaration, unless it is an `UnexpectedEof`, stays the error with more bytes appended
declaration_error_more : {end : ℕ} {bytes : List ℕ} {e : Error} (longer : ℕ) (more : List ℕ) → HasError end bytes e
    → IsNotEof e → HasError longer (bytes ++ more) e
declaration_error_more longer more (number_bad front bytes k b c) final =
    rw (append_assoc front bytes more) (number_bad front (bytes ++ more) k b (bad_more k bytes more c))
declaration_error_more longer more (tag_zero front tag rest code is zero_tag) final =
    rw (append_assoc (front ++ tag) rest more) (tag_zero front tag (rest ++ more) code is zero_tag)
declaration_error_more longer more (children_bad front rest code tag byte is lt) final =
    rw (append_assoc front (byte ∷ rest) more) (children_bad front (rest ++ more) code tag byte is lt)
declaration_error_more longer more (name_zero front name form rest d f is is_name is_form formed) final =
    rw (append_assoc (front ++ name ++ form) rest more)
    (name_zero front name form (rest ++ more) d f is is_name is_form formed)
declaration_error_more longer more (form_zero front name form rest d n is is_name named is_form) final =
    rw (append_assoc (front ++ name ++ form) rest more)
    (form_zero front name form (rest ++ more) d n is is_name named is_form)
declaration_error_more longer more h final = grind arith

-- the first error of bytes, unless it is an `UnexpectedEof`, stays the first with more bytes appended
first_error_more : {end : ℕ} {bytes : List ℕ} {e : Error} (longer : ℕ) (more : List ℕ) → IsFirstError end bytes e
    → IsNotEof e → IsFirstError longer (bytes ++ more) e
first_error_more longer more (repeated bytes declaration rest ds d are is twice) final =
    rw (append_assoc (bytes ++ declaration) rest more) (repeated bytes declaration (rest ++ more) ds d are is twice)
first_error_more longer more (in_declaration bytes rest ds e are some f) final =
    rw (append_assoc bytes rest more)
    (in_declaration bytes (rest ++ more) ds e are (bytes-still_some rest more some)
    (declaration_error_more longer more f final))

-- a final result is still the result when bytes are appended to the section
pub answer_more : {section : Input} {offset : ℕ} {r : Result Table Error} (more : List ℕ) → Answer section offset r
    → IsFinal r → Answer (followed_by section more) offset r
answer_more {section} {offset} more (table t le is) final =
    table t (omega (arith, length-append section.bytes more, le))
    (is.0 ++ more, rw (drop-append-le offset section.bytes more le) (table_more more is.1 final))
answer_more {section} {offset} more (first_error e le is) final =
    first_error e (omega (arith, length-append section.bytes more, le))
    (rw (drop-append-le offset section.bytes more le)
    (first_error_more (end_of (followed_by section more)) more is final))
answer_more more (outside lt) final = grind arith

-- a final result that a call returned is still the section's result when bytes are appended
pub returned_stays : (r : Result Table Error) (section : Input) (offset : ℕ) → Answers r section offset → IsFinal r
    → (more : List ℕ) → Answers r (followed_by section more) offset
returned_stays r section offset h final more = grind (arith, answer_more)
