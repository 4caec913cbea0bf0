-- The form of a value is a reading: a value of DW_FORM_indirect begins with a number that is its form, and each number
-- takes a byte.
use Rattle.std.proofs.Common.{◌≡◌, ◌≢◌, ◌<◌, ◌+◌, ℕ, zero, suc, List, length, Result, Ok, Err, inl, inr, refl, sym, ap, arith}
use Rattle.std.specs.Prelude.{IfErr}
use Rattle.std.proofs.lemmas.Grind.{common_steps}
use Rattle.dwarf_read_core.proofs.public.Consuming.{after-zero, takes-both}
use Rattle.dwarf_read_core.proofs.public.Once.{one_by_equality}
use Rattle.dwarf_read_core.proofs.public.Readings.{leb128-is}
use Rattle.dwarf_read_core.specs.Appended.{IsNotEof, followed_by}
use Rattle.dwarf_read_core.specs.declared.Error.{Error}
use Rattle.dwarf_read_core.specs.Faults.{eof}
use Rattle.dwarf_read_core.specs.Input.{Input, Takes}
use Rattle.dwarf_read_core.specs.Leb128.{ReadsLeb128, unsigned16}
use Rattle.dwarf_read_core.specs.Once.{HasOne}
use Rattle.dwarf_read_core.specs.Readings.{IsRead, Leb128Read, Then}
use Rattle.dwarf_entry_core.specs.Values.{FormRead, HasForm, HasNoForm, direct, from_entry, indirect, no_later, no_number}

-- a number takes at least one byte
shorter : (old new : Input) (x : ℕ) → ReadsLeb128 unsigned16 old x new → length new.bytes < length old.bytes
shorter old new x is = grind (arith, common_steps)

-- a form that isn't indirect is the only one
direct-only : (form : ℕ) (old : Input) → form ≢ indirect → (other : Result ℕ Error × Input) → FormRead form old other
    → other ≡ (Ok form, old)
direct-only form old differs (Ok x, new) (direct d) = refl
direct-only form old differs (Ok x, new) (from_entry same t h) = absurd (differs same)
direct-only form old differs (Err f, new) (no_number same t) = absurd (differs same)
direct-only form old differs (Err f, new) (no_later same t h) = absurd (differs same)

module _ (form : ℕ) (same : form ≡ indirect) where
  -- what a number and its form are is the form
  indirect-to : (old : Input) (r : Result ℕ Error × Input) → Then (Leb128Read unsigned16) FormRead old r
      → FormRead form old r
  indirect-to old (Ok x, new) is = from_entry same is.2 is.3
  indirect-to old (Err e, new) (inl is) = no_number same is
  indirect-to old (Err e, new) (inr is) = no_later same is.2 is.3

  -- and the form is what these are
  indirect-from : (old : Input) (r : Result ℕ Error × Input) → FormRead form old r
      → Then (Leb128Read unsigned16) FormRead old r
  indirect-from old (Ok x, new) (direct differs) = absurd (differs same)
  indirect-from old (Ok x, new) (from_entry i t h) = (_, _, t, h)
  indirect-from old (Err e, new) (no_number i t) = inl t
  indirect-from old (Err e, new) (no_later i t h) = inr (_, _, t, h)

module _ (old : Input) (rest : (x : ℕ) (mid : Input) → ReadsLeb128 unsigned16 old x mid → HasOne (FormRead x mid)) where
  -- if each number that may be there has exactly one form, the number and its form are one result
  then-one : (r : Result ℕ Error × Input) → Leb128Read unsigned16 old r
      → ((other : Result ℕ Error × Input) → Leb128Read unsigned16 old other → other ≡ r)
      → HasOne (Then (Leb128Read unsigned16) FormRead old)
  then-one (Ok x, mid) is only = let one = rest x mid is in (one.0, some one.0 one.1, just one.0 one.2)
    where
      -- the form of the number is a result
      some : (r : Result ℕ Error × Input) → FormRead x mid r → Then (Leb128Read unsigned16) FormRead old r
      some (Ok y, new) h = (x, mid, is, h)
      some (Err e, new) h = inr (x, mid, is, h)

      -- a form after any number is a form after this one
      moved : (y : ℕ) (m : Input) → Leb128Read unsigned16 old (Ok y, m) → (r : Result ℕ Error × Input) → FormRead y m r
          → FormRead x mid r
      moved y m t r h =
          let both = only (Ok y, m) t in
          let number : y ≡ x = let first = ap (λ (s : Result ℕ Error × Input). s.0) both in cc in
          let left : m ≡ mid = ap (λ (s : Result ℕ Error × Input). s.1) both in
          rw (number, left) at h

      -- and no other is
      just : (r : Result ℕ Error × Input) → ((other : Result ℕ Error × Input) → FormRead x mid other → other ≡ r)
          → (other : Result ℕ Error × Input) → Then (Leb128Read unsigned16) FormRead old other → other ≡ r
      just r one (Ok y, new) h = one (Ok y, new) (moved h.0 h.1 h.2 (Ok y, new) h.3)
      just r one (Err e, new) (inl h) =
          let apart : ◌≡◌ {A = Result ℕ Error} (Err e) (Ok x) = ap (λ (s : Result ℕ Error × Input). s.0) (only (Err e, new) h)
          in absurd cc
      just r one (Err e, new) (inr h) = one (Err e, new) (moved h.0 h.1 h.2 (Err e, new) h.3)
  then-one (Err e, mid) is only = ((Err e, mid), inl is, just)
    where
      -- no other result is there
      just : (other : Result ℕ Error × Input) → Then (Leb128Read unsigned16) FormRead old other → other ≡ (Err e, mid)
      just (Ok y, new) h =
          let apart : ◌≡◌ {A = Result ℕ Error} (Ok h.0) (Err e) = ap (λ (s : Result ℕ Error × Input). s.0) (only (Ok h.0, h.1) h.2)
          in absurd cc
      just (Err f, new) (inl h) = only (Err f, new) h
      just (Err f, new) (inr h) =
          let apart : ◌≡◌ {A = Result ℕ Error} (Ok h.0) (Err e) = ap (λ (s : Result ℕ Error × Input). s.0) (only (Ok h.0, h.1) h.2)
          in absurd cc

-- a form, by induction on a number above the length
form-one : (steps form : ℕ) (old : Input) → length old.bytes < steps → HasOne (FormRead form old)
form-one zero form old few = absurd (omega arith)
form-one (suc steps) form old few =
    one_by_equality form indirect
    (λ same.
    let number = (leb128-is unsigned16).decided.one old in
    let one = then-one old (λ x mid t. form-one steps x mid (omega (arith, shorter old mid x t, few))) number.0 number.1 number.2 in
    (one.0, indirect-to form same old one.0 one.1, λ other h. one.2 other (indirect-from form same old other h)))
    (λ differs. ((Ok form, old), direct differs, direct-only form old differs))

-- appended bytes change a form only where bytes were missing
form-more : (old new : Input) (form x : ℕ) (more : List ℕ) → HasForm old form x new
    → HasForm (followed_by old more) form x (followed_by new more)
form-more old new form x more (direct differs) = direct differs
form-more old new form x more (from_entry {mid = mid} {next = next} same t h) =
    from_entry same ((leb128-is unsigned16).decided.more old mid (Ok next) more t tt)
    (form-more mid new next x more h)

-- and an error in its place
no_form-more : (old new : Input) (form : ℕ) (e : Error) (more : List ℕ) → IsNotEof e
    → HasNoForm old form e new → HasNoForm (followed_by old more) form e (followed_by new more)
no_form-more old new form e more settled (no_number same t) =
    no_number same ((leb128-is unsigned16).decided.more old new (Err e) more t settled)
no_form-more old new form e more settled (no_later {mid = mid} {next = next} same t h) =
    no_later same ((leb128-is unsigned16).decided.more old mid (Ok next) more t tt)
    (no_form-more mid new next e more settled h)

-- the bytes of the numbers before a form are taken
form-taken : (old new : Input) (form x : ℕ) → HasForm old form x new → (n : ℕ) × Takes n old new
form-taken old new form x (direct differs) = (0, record { enough = omega arith; left = sym (after-zero old) })
form-taken old new form x (from_entry {mid = mid} {next = next} same t h) =
    let first = (leb128-is unsigned16).decided.taken old mid (Ok next) t in
    let others = form-taken mid new next x h in
    (first.0 + others.0, takes-both first.1 others.1)

-- or those before an error in its place
no_form-taken : (old new : Input) (form : ℕ) (e : Error) → HasNoForm old form e new → (n : ℕ) × Takes n old new
no_form-taken old new form e (no_number same t) = (leb128-is unsigned16).decided.taken old new (Err e) t
no_form-taken old new form e (no_later {mid = mid} {next = next} same t h) =
    let first = (leb128-is unsigned16).decided.taken old mid (Ok next) t in
    let others = no_form-taken mid new next e h in
    (first.0 + others.0, takes-both first.1 others.1)

-- where bytes are missing, the reading stops
form-missing : (old new : Input) (form position : ℕ) → HasNoForm old form (eof position) new → position ≡ new.position
form-missing old new form position (no_number same t) = (leb128-is unsigned16).missing old new position t
form-missing old new form position (no_later {mid = mid} {next = next} same t h) = form-missing mid new next position h

-- the form of a value is a reading
pub form-is : (form : ℕ) → IsRead (FormRead form)
form-is form = record {
  decided = record {
    one = λ old. form-one (suc (length old.bytes)) form old (omega arith);
    more = λ old new result more is settled. stays old new result more is settled;
    taken = λ old new result is. taken old new result is;
  };
  missing = λ old new position is. form-missing old new form position is;
}
  where
    -- appended bytes change its result only where bytes were missing
    stays : (old new : Input) (result : Result ℕ Error) (more : List ℕ) → FormRead form old (result, new)
        → IfErr result IsNotEof → FormRead form (followed_by old more) (result, followed_by new more)
    stays old new (Ok x) more is settled = form-more old new form x more is
    stays old new (Err e) more is settled = no_form-more old new form e more settled is

    -- it takes bytes
    taken : (old new : Input) (result : Result ℕ Error) → FormRead form old (result, new) → (n : ℕ) × Takes n old new
    taken old new (Ok x) is = form-taken old new form x is
    taken old new (Err e) is = no_form-taken old new form e is
