-- How a table changes with the next entry that its parser reads.
use Rattle.dwarf_read_core.proofs.Common.{◌≡◌, ℕ, zero, suc, ◌<◌, true, false, cond, List, [], length, Option, Some, None, Result, Ok, Err, refl, ap, arith, ne_eqb, insert, contains_key, nil_from_length, Error, DuplicateAbbreviationCode, Declaration, ByCode, Table, closed, ◌>>=◌, declaration_at, close_of, and_declared, ◌≢◌, by_null, by_end, coded_at, table_at, table_in}
use Rattle.dwarf_read_core.proofs.tables.ReadingIsSound.{declaration_shorter}
use Rattle.dwarf_read_core.proofs.tables.ReadingIsComplete.{end_again}

-- what reading a table returns
abbrev pub TableRead : Type 0
TableRead = Result Table Error

-- reading a table has the same outcome under any two bounds above the number of bytes
table_enough : (n m end : ℕ) (t : ByCode) (bytes : List ℕ) → length bytes < n → length bytes < m
    → table_at n end t bytes ≡ table_at m end t bytes
unfolding table_at
table_enough zero m end t bytes short other = absurd (omega arith)
table_enough (suc n) zero end t bytes short other = absurd (omega arith)
table_enough (suc n) (suc m) end t bytes short other =
    go (λ more rest h. table_enough n m end more rest (omega arith) (omega arith)) (declaration_at end bytes) refl
  where
    go : ((more : ByCode) (rest : List ℕ) → length rest < length bytes
        → table_at n end more rest ≡ table_at m end more rest) → (r : Result (Option Declaration × List ℕ) Error)
        → declaration_at end bytes ≡ r
        → (r >>= λ first. and_declared (close_of bytes) t first.0 (λ more. table_at n end more first.1))
        ≡ (r >>= λ first. and_declared (close_of bytes) t first.0 (λ more. table_at m end more first.1))
    go others (Err e) q = refl
    go others (Ok (None, rest)) q = refl
    go others (Ok (Some d, rest)) q =
        ap (cond (contains_key t d.code) (Err (DuplicateAbbreviationCode d.code)))
        (others (insert t d.code d) rest (declaration_shorter end bytes d rest q))

-- reading a table fails with the error of the next declaration
pub table_fails : (end : ℕ) (t : ByCode) (bytes : List ℕ) (e : Error) → declaration_at end bytes ≡ Err e
    → table_in end t bytes ≡ Err e
unfolding table_in table_at
table_fails end t bytes e q = grind arith

-- if bytes remain, reading a declaration or the end of the table is reading a code and what follows it
pub declaration-coded : (end : ℕ) (bytes : List ℕ) → bytes ≢ [] → declaration_at end bytes ≡ coded_at end bytes
unfolding declaration_at
declaration-coded end bytes some = rw (ne_eqb (length bytes) 0 (λ h. some (nil_from_length bytes h))) refl

-- reading a table ends if no declaration is next: the end closes it if no bytes remain, or else a code of value 0
pub table_ends : (end : ℕ) (t : ByCode) (bytes rest : List ℕ) → declaration_at end bytes ≡ Ok (None, rest)
    → table_in end t bytes ≡ Ok (closed t (close_of bytes))
unfolding table_in table_at
table_ends end t bytes rest q = grind arith

-- a code of value 0 closes a table if bytes remain
pub closed-by_null : (bytes : List ℕ) → bytes ≢ [] → by_null ≡ close_of bytes
closed-by_null bytes some = rw (ne_eqb (length bytes) 0 (λ h. some (nil_from_length bytes h))) refl

-- reading a table ends with a code of value 0 if bytes remain and no declaration is next
pub table_ends_by_null : (end : ℕ) (t : ByCode) (bytes rest : List ℕ) → bytes ≢ []
    → declaration_at end bytes ≡ Ok (None, rest) → table_in end t bytes ≡ Ok (closed t by_null)
table_ends_by_null end t bytes rest some q = rw (closed-by_null bytes some) (table_ends end t bytes rest q)

-- reading a table ends if no bytes remain
pub table_ends_by_end : (end : ℕ) (t : ByCode) (bytes : List ℕ) → bytes ≡ []
    → table_in end t bytes ≡ Ok (closed t by_end)
table_ends_by_end end t bytes none = rw none (table_ends end t [] [] (end_again end))

-- reading a table fails with `DuplicateAbbreviationCode` if the table has the code of the next declaration
pub table_repeats : (end : ℕ) (t : ByCode) (bytes : List ℕ) (d : Declaration) (rest : List ℕ)
    → declaration_at end bytes ≡ Ok (Some d, rest) → contains_key t d.code ≡ true
    → table_in end t bytes ≡ Err (DuplicateAbbreviationCode d.code)
unfolding table_in table_at
table_repeats end t bytes d rest q twice = grind arith

-- reading a table goes on after the next declaration with that one inserted, if its code is new
pub table_goes_on : (end : ℕ) (t : ByCode) (bytes : List ℕ) (d : Declaration) (rest : List ℕ)
    → declaration_at end bytes ≡ Ok (Some d, rest) → contains_key t d.code ≡ false
    → table_in end t bytes ≡ table_in end (insert t d.code d) rest
unfolding table_in table_at
table_goes_on end t bytes d rest q fresh = grind (arith, declaration_shorter, table_enough)

-- how a table changes with the next entry
pub ruleset table_steps = (table_fails, table_ends_by_null, table_ends_by_end, table_repeats, table_goes_on, declaration_shorter)
