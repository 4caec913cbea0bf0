-- The declarations at the front of bytes, as many as there are.
use Rattle.dwarf_read_core.proofs.Common.{◌≡◌, ◌∙◌, ℕ, eqb, true, false, cond, Bool, List, ◌++◌, Option, Some, None, Result, Ok, Err, sym, ap, arith, IsTrue, contains_key, insert, get-insert, nat_cmp_total, nat_tests, Error, Declaration, ByCode, declaration_at}
use Rattle.std.specs.Prelude.{◌||◌}
use Rattle.dwarf_read_core.specs.Answer.{BeginsWith, BeginsWithAll}
use Rattle.dwarf_read_core.proofs.tables.ReadingIsComplete.{declaration_again}

-- declarations with one more have its code, and those that they had
pub inserted_key : (t : ByCode) (d : Declaration) (code : ℕ)
    → contains_key (insert t d.code d) code ≡ (contains_key t code || eqb d.code code)
inserted_key t d code = grind (arith, get-insert nat_cmp_total t d.code d code, nat_tests)

module _ {whole rest : List ℕ} {t : ByCode} (end : ℕ) (begins : BeginsWith whole t rest) where
  -- declarations are all if what is read after them is no declaration, or one with a code of theirs
  begins_with_all : (read : Result (Option Declaration × List ℕ) Error) → declaration_at end rest ≡ read
      → ((d : Declaration) (others : List ℕ) → read ≡ Ok (Some d, others) → IsTrue (contains_key t d.code))
      → BeginsWithAll whole t rest
  begins_with_all read is known = record {
    begins = begins;
    last = λ declaration others d parts has.
        known d others (sym is ∙ ap (declaration_at end) parts ∙ declaration_again end declaration others d has);
  }

  -- so they are before a declaration with a code of theirs
  pub all_before_repeated : (d : Declaration) (others : List ℕ) → declaration_at end rest ≡ Ok (Some d, others)
      → contains_key t d.code ≡ true → BeginsWithAll whole t rest
  all_before_repeated d others is has = begins_with_all (Ok (Some d, others)) is (λ e more same. grind arith)

  -- before what closes a table
  pub all_before_close : (others : List ℕ) → declaration_at end rest ≡ Ok (None, others) → BeginsWithAll whole t rest
  all_before_close others is = begins_with_all (Ok (None, others)) is (λ d more same. absurd (grind arith))

  -- and before an error
  pub all_before_error : (e : Error) → declaration_at end rest ≡ Err e → BeginsWithAll whole t rest
  all_before_error e is = begins_with_all (Err e) is (λ d more same. absurd cc)
