-- A whole table that is read, or its first error, is what the grammar says, and conversely.
use Rattle.dwarf_read_core.proofs.Common.{◌≡◌, ◌≢◌, ℕ, zero, suc, ◌<◌, ◌≤◌, false, List, [], ◌∷◌, ◌++◌, length, Option, Some, None, Ok, Err, refl, sym, ap, ◌∙◌, append_assoc, arith, append-nil, length-append, empty, insert, contains_key, Error, DuplicateAbbreviationCode, Declaration, Sequence, IsDeclaration, AllPairs, AreDeclarations, ByCode, Table, closed, by_code_of, IsTable, IsTableBefore, closed_by_null, closed_by_end, IsFirstError, in_declaration, repeated, close_of, by_null, by_end, and_declared, table_at, table_in, HasOutcome, returned, failed, outcome-bind, outcome-cond, outcome-map, outcome-ok, declaration_at}
use Rattle.dwarf_read_core.specs.Answer.{BeginsWith}
use Rattle.dwarf_read_core.proofs.tables.ReadingNumbers.{encoding-begins, encoding-nonempty}
use Rattle.dwarf_read_core.proofs.tables.ReadingAttributes.{Sequence-push}
use Rattle.dwarf_read_core.proofs.tables.ReadingIsSound.{DeclarationFound, EndFound, at_end, at_zero, EntryFound, declaration_outcome, declaration_found_shorter}
use Rattle.dwarf_read_core.proofs.tables.ReadingIsComplete.{declaration_again, zero_again, end_again, error_again}
use Rattle.dwarf_read_core.proofs.tables.ReadingTables.{closed-by_null, table_fails, table_ends, table_repeats, table_goes_on}
use Rattle.dwarf_read_core.proofs.tables.CodesOnce.{repeated_code, declared_from_key, table_push, distinct_push, distinct_front}

-- ---- what is read is in the grammar

-- any bytes begin with no declarations
pub begins_with_none : (bytes : List ℕ) → BeginsWith bytes empty bytes
begins_with_none bytes =
    let are : AreDeclarations [] [] = record { each = refl; distinct = λ i j none lt within. absurd (omega arith) } in
    record { front = []; declarations = []; parts = refl; are = are; by_code = refl }

-- a declaration with a new code after some declarations is one more of them
begins_with_more : {whole bytes rest : List ℕ} {t : ByCode} (d : Declaration) → BeginsWith whole t bytes
    → DeclarationFound bytes d rest → contains_key t d.code ≡ false → BeginsWith whole (insert t d.code d) rest
begins_with_more d b f fresh =
    let new = rw b.by_code at fresh in
    record {
      front = b.front ++ f.front;
      declarations = b.declarations ++ d ∷ [];
      parts = rw (b.parts, f.parts) (simp append_assoc);
      are = record {
        each = Sequence-push IsDeclaration b.front b.declarations f.front d b.are.each f.is_declaration;
        distinct = distinct_push b.declarations d b.are.distinct new;
      };
      by_code = rw b.by_code (sym (table_push b.declarations d new));
    }

-- declarations and an end of the table after them are a table with that close
begins_and_ends : {whole bytes rest : List ℕ} {t : ByCode} → BeginsWith whole t bytes → EndFound bytes rest
    → IsTableBefore whole (closed t (close_of bytes)) rest
begins_and_ends b at_end =
    rw (b.parts, b.by_code, append-nil b.front) (closed_by_end b.front b.declarations b.are)
begins_and_ends b (at_zero bytes rest z) =
    rw (
      b.parts,
      b.by_code,
      z.parts,
      encoding-begins z.front rest z.is_zero.encoding,
      ← append_assoc b.front z.front rest,
    )
    (closed_by_null b.front z.front rest b.declarations b.are z.is_zero)

-- fewer or as many bytes are after a table as there are in all
pub table_before_fits : {bytes rest : List ℕ} {t : Table} → IsTableBefore bytes t rest → length rest ≤ length bytes
table_before_fits h = grind (arith, length-append)

-- fewer bytes are after a table than there are in all, unless there are none
pub table_before_takes : {bytes rest : List ℕ} {t : Table} → IsTableBefore bytes t rest → 0 < length bytes
    → length rest < length bytes
table_before_takes h some = grind (arith, length-append, encoding-nonempty)

-- a declaration with a new code that is read after some declarations is one more of them
pub begins_with_read : {whole bytes rest : List ℕ} {t : ByCode} (end : ℕ) (d : Declaration) → BeginsWith whole t bytes
    → declaration_at end bytes ≡ Ok (Some d, rest) → contains_key t d.code ≡ false
    → BeginsWith whole (insert t d.code d) rest
begins_with_read {bytes = bytes} end d b read fresh =
    begins_with_more d b (outcome-ok (declaration_outcome end bytes) (Some d, _) read) fresh

-- if bytes remain and no declaration is read after some declarations, these are a table that a code of value 0 closes
pub begins_before_null : {whole bytes rest : List ℕ} {t : ByCode} (end : ℕ) → BeginsWith whole t bytes → bytes ≢ []
    → declaration_at end bytes ≡ Ok (None, rest) → IsTableBefore whole (closed t by_null) rest
begins_before_null {bytes = bytes} end b some read =
    rw (closed-by_null bytes some) (begins_and_ends b (outcome-ok (declaration_outcome end bytes) (None, _) read))

-- if no bytes remain after some declarations, these are a table that the end closes
pub begins_before_end : {whole bytes : List ℕ} {t : ByCode} → BeginsWith whole t bytes → bytes ≡ []
    → IsTableBefore whole (closed t by_end) bytes
begins_before_end b none = rw none (begins_and_ends (rw none at b) at_end)

-- what is read after some declarations is the table that all bytes begin with, or their first error
pub table_after : (n end : ℕ) (bytes whole : List ℕ) (t : ByCode) → BeginsWith whole t bytes → length bytes < n
    → HasOutcome (IsTable whole) (IsFirstError end whole) (table_at n end t bytes)
unfolding table_at
table_after zero end bytes whole t b short = absurd (omega arith)
table_after (suc n) end bytes whole t b short =
    outcome-bind _ (outcome-map (λ x f. f)
    (λ e f. rw b.parts (in_declaration b.front bytes b.declarations e b.are f.0 f.1)) (declaration_outcome end bytes))
    (λ first f. go (λ rest. table_after n end rest whole) first.0 first.1 f)
  where
    go : ((rest : List ℕ) (t : ByCode) → BeginsWith whole t rest → length rest < n
        → HasOutcome (IsTable whole) (IsFirstError end whole) (table_at n end t rest))
        → (o : Option Declaration) (rest : List ℕ) → EntryFound bytes o rest
        → HasOutcome (IsTable whole) (IsFirstError end whole)
        (and_declared (close_of bytes) t o (λ more. table_at n end more rest))
    go others None rest f = returned _ (rest, begins_and_ends b f)
    go others (Some d) rest f =
        let following : whole ≡ b.front ++ f.front ++ rest = rw (b.parts, f.parts) (simp append_assoc) in
        outcome-cond (contains_key t d.code)
        (λ e. failed (DuplicateAbbreviationCode d.code)
        (rw following (repeated b.front f.front rest b.declarations d b.are f.is_declaration
        (declared_from_key b.declarations d.code (rw b.by_code at e)))))
        (λ e. others rest (insert t d.code d) (begins_with_more d b f e)
        (let h = declaration_found_shorter bytes d rest f in omega arith))

-- ---- what is in the grammar is read

-- declarations with new and distinct codes are read into the table, and reading goes on after them
feed : (end : ℕ) (seen : List Declaration) (bytes rest : List ℕ) (ds : List Declaration)
    → Sequence IsDeclaration bytes ds → AllPairs (λ d later. d.code ≢ later.code) (seen ++ ds)
    → table_in end (by_code_of seen) (bytes ++ rest) ≡ table_in end (by_code_of (seen ++ ds)) rest
feed end seen bytes rest [] e h = rw (e, append-nil seen) refl
feed end seen bytes rest (d ∷ ds) q h =
    let new = distinct_front seen ds d h in
    let regrouped : (seen ++ d ∷ []) ++ ds ≡ seen ++ (d ∷ ds) = append_assoc seen (d ∷ []) ds in
    let goes_on = table_goes_on end (by_code_of seen) (q.0 ++ (q.1 ++ rest)) d (q.1 ++ rest)
    (declaration_again end q.0 (q.1 ++ rest) d q.3) new in
    let others = feed end (seen ++ d ∷ []) q.1 rest ds q.4 (rw regrouped h) in
    rw (q.2, append_assoc, goes_on, ← table_push seen d new) (rw regrouped at others)

-- bytes that begin with a table are read as that table
pub table_read_again : {bytes : List ℕ} {t : Table} (end : ℕ) → IsTable bytes t
    → table_in end (by_code_of []) bytes ≡ Ok t
table_read_again end (_, closed_by_null bytes zero_code rest ds are is) =
    let ends = table_ends end (by_code_of ds) (zero_code ++ rest) rest (zero_again end zero_code rest is) in
    rw (append_assoc, feed end [] bytes (zero_code ++ rest) ds are.each are.distinct)
    (rw (ends, encoding-begins zero_code rest is.encoding) refl)
table_read_again end (_, closed_by_end bytes ds are) =
    ap (table_in end (by_code_of [])) (sym (append-nil bytes)) ∙ feed end [] bytes [] ds are.each are.distinct
    ∙ table_ends end (by_code_of ds) [] [] (end_again end)

-- bytes with a first error in place of a table are read as that error
pub first_error_again : {bytes : List ℕ} {e : Error} {end : ℕ} → IsFirstError end bytes e
    → table_in end (by_code_of []) bytes ≡ Err e
first_error_again {end = end} (in_declaration bytes rest ds e are some f) =
    rw (feed end [] bytes rest ds are.each are.distinct)
    (table_fails end (by_code_of ds) rest e (error_again end f some))
first_error_again {end = end} (repeated bytes declaration rest ds d are is twice) =
    rw (append_assoc, feed end [] bytes (declaration ++ rest) ds are.each are.distinct)
    (table_repeats end (by_code_of ds) (declaration ++ rest) d rest (declaration_again end declaration rest d is)
    (repeated_code ds d.code twice))
