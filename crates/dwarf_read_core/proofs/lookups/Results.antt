-- What is read at a place of a section: exactly one result, which stays when bytes are appended; and what a lookup
-- returned of it.
use Rattle.dwarf_read_core.proofs.Common.{ℕ, List, Result, Ok, Err, Bool, IfErr, ap, sym, subst, ◌≡◌, inl, inr, followed_by, Error, HasOne, IsNotEof, Input, ◌⊎◌, UnlessCloneRanOut, Stays}
use Rattle.std.specs.Prelude.{⊤}
use Rattle.std.proofs.Common.{IsErrAnd}
use Rattle.dwarf_reader_core.specs.Readings.{IsDecided, Reading, Then}
use Rattle.dwarf_reader_core.proofs.public.Readings.{then-decided}
use Rattle.dwarf_read_core.specs.Lookups.{ReadAt}

-- ---- what a lookup returned

-- an error that `?` propagates is the result of the lookup
pub result-propagated : {X A : Type 0} {Is : Result A Error → Type 0} {view : X → A} {clone_is_free : Bool}
    (e : Error) {r : Result X Error} → IsErrAnd r (λ x. x ≡ e) → Is (Err e) → UnlessCloneRanOut Is view clone_is_free r
result-propagated e {r = Ok x} h is = absurd h
result-propagated {Is = Is} e {r = Err d} h is = record { ok = tt; err = inl (subst (λ x. Is (Err x)) (sym h) is) }

-- of two facts the first is replaced by one that follows from it
first_replaced : {P Q R : Type 0} → (P → Q) → P ⊎ R → Q ⊎ R
first_replaced follows (inl p) = inl (follows p)
first_replaced follows (inr r) = inr r

-- if appended bytes change no result of a section except `UnexpectedEof`, they change nothing that a lookup returned
pub lookup-stays : {X A : Type 0} (IsIn : Input → Result A Error → Type 0) {section : Input}
    → ((more : List ℕ) (answer : Result A Error) → IsIn section answer → IfErr answer IsNotEof
    → IsIn (followed_by section more) answer)
    → {view : X → A} {clone_is_free : Bool} {r : Result X Error}
    → UnlessCloneRanOut (IsIn section) view clone_is_free r → Stays IsIn view clone_is_free section r
lookup-stays IsIn kept {view} {r = Ok x} is =
    record { stays = λ settled more. record { ok = kept more (Ok (view x)) is.ok tt; err = tt } }
lookup-stays IsIn kept {r = Err e} is =
    record {
      stays = λ settled more. record {
        ok = tt;
        err = first_replaced (λ no. kept more (Err e) no settled) is.err;
      };
    }

-- ---- what is read at a place

module _ {A : Type 0} {Place : Reading ⊤} {At : Reading A} where
  -- the error of going to a place is the result there
  pub read_at-missed : {section : Input} {e : Error} (new : Input) → Place section (Err e, new)
      → ReadAt Place At section (Err e)
  read_at-missed new missed = record { new = new; read = inl missed }

  -- what is read once a place is reached is the result there
  pub read_at-reached : {section : Input} (mid new : Input) (r : Result A Error) → Place section (Ok tt, mid)
      → At mid (r, new) → ReadAt Place At section r
  read_at-reached mid new (Ok x) reached at = record { new = new; read = (tt, mid, reached, at) }
  read_at-reached mid new (Err e) reached at = record { new = new; read = inr (tt, mid, reached, at) }

  module _ (place : IsDecided Place) (read : IsDecided At) where
    -- the bytes of a section decide what is read at a place
    read_from-decided : IsDecided (Then Place (λ _. At))
    read_from-decided = then-decided place (λ _. read)

    -- a section has exactly one result at a place
    pub read_at-exactly_one : (section : Input) → HasOne (ReadAt Place At section)
    read_at-exactly_one section =
        let one = read_from-decided.one section in
        (one.0.0, record { new = one.0.1; read = one.1 }, λ other is. ap (λ r. r.0) (one.2 (other, is.new) is.read))

    -- the result at a place, unless it is an `UnexpectedEof`, stays when bytes are appended
    pub read_at-more : (section : Input) (r : Result A Error) (more : List ℕ) → ReadAt Place At section r
        → IfErr r IsNotEof → ReadAt Place At (followed_by section more) r
    read_at-more section r more at settled = record {
      new = followed_by at.new more;
      read = read_from-decided.more section at.new r more at.read settled;
    }

    -- what a lookup returned, except `UnexpectedEof` and `OutOfMemory`, stays when bytes are appended
    pub read_at-stays : {X : Type 0} {section : Input} {view : X → A} {clone_is_free : Bool} {r : Result X Error}
        → UnlessCloneRanOut (ReadAt Place At section) view clone_is_free r
        → Stays (ReadAt Place At) view clone_is_free section r
    read_at-stays {section = section} =
        lookup-stays (ReadAt Place At) (λ more answer. read_at-more section answer more)
