-- The name and the form of an attribute, which are read together.
use Rattle.dwarf_read_core.proofs.Common.{arith, refl, sym, ap, ◌≡◌, ◌==◌, ◌∙◌, ℕ, ◌<◌, List, [], ◌∷◌, take, Option, Some, None, Result, Ok, Err, Error, AttributeNameZero, AttributeFormZero, inl, inr, Input, end_of, ReadsLeb128, Specification, ◌>>=◌, number_at, value_at, specification_of, specification_at}
use Rattle.std.specs.Prelude.{slice_index, if◌then◌else◌}
use Rattle.dwarf_reader_core.specs.Input.{Takes, after}
use Rattle.dwarf_reader_core.specs.Leb128.{unsigned16}
use Rattle.dwarf_reader_core.proofs.public.Consuming.{after-after}
use Rattle.dwarf_read_core.specs.Reading.{PairRead}
use Rattle.dwarf_read_core.proofs.tables.ReadingNumbers.{end_stays, number_not_read, number_read}

-- a byte below 128 is the number that it encodes
short_number : (old : Input) (b : ℕ) (rest : List ℕ) → old.bytes ≡ b ∷ rest → b < 128
    → ReadsLeb128 unsigned16 old b (after 1 old)
short_number old b rest same short = grind arith

-- two such bytes are the numbers of a name and a form
pub short_pair : (old new : Input) (pair : List ℕ) → pair ≡ take 2 old.bytes → Takes 2 old new
    → slice_index pair 0 < 128 → slice_index pair 1 < 128
    → PairRead old (Ok (slice_index pair 0, slice_index pair 1), new)
short_pair old new pair is taken first second = go old.bytes refl
  where
    go : (bytes : List ℕ) → old.bytes ≡ bytes → PairRead old (Ok (slice_index pair 0, slice_index pair 1), new)
    go [] e = let enough = rw e at taken.enough in absurd (omega (arith, enough))
    go (b ∷ []) e = let enough = rw e at taken.enough in absurd (omega (arith, enough))
    go (b ∷ c ∷ rest) e =
        let whole : pair ≡ b ∷ c ∷ [] = rw e at is in
        let low : b < 128 = rw whole at first in
        let high : c < 128 = rw whole at second in
        rw (whole, taken.left, sym (after-after 1 1 old))
        (b, after 1 old, short_number old b (c ∷ rest) e low, (c, refl, short_number (after 1 old) c rest (rw e refl) high))

-- what the function reads after a name and a form
abbrev pub specified_at : ℕ → ℕ → ℕ → List ℕ → Result (Option Specification × List ℕ) Error
specified_at end name form bytes =
    if name == 0 then (if form == 0 then Ok
    (None, bytes) else Err AttributeNameZero) else if form == 0 then Err AttributeFormZero else
    (value_at end form bytes >>= λ value. Ok (Some (specification_of name form value.0), value.1))

-- the function reads a specification whose name and form a reader reads
pub specification-of_pair : {old new : Input} {name form : ℕ} → PairRead old (Ok (name, form), new)
    → specification_at (end_of old) old.bytes ≡ specified_at (end_of old) name form new.bytes
unfolding specification_at
specification-of_pair {old = old} {new = new} (x, mid, first, (y, same, second)) =
    let again = number_read (end_of old) second in
    rw (number_read (end_of old) first, again, ap (λ z. z.0) same, ap (λ z. z.1) same) refl

-- reading a name and a form doesn't change the position of the end
pub pair-end_stays : {old new : Input} {pair : ℕ × ℕ} → PairRead old (Ok pair, new) → end_of new ≡ end_of old
pair-end_stays (x, mid, first, (y, same, second)) = end_stays second ∙ end_stays first

-- the error of a reader in place of either is what the function reads
pub specification-of_no_pair : {old new : Input} {e : Error} → PairRead old (Err e, new)
    → specification_at (end_of old) old.bytes ≡ Err e
unfolding specification_at
specification-of_no_pair (inl first) = rw (number_not_read first) refl
specification-of_no_pair {old = old} {e = e} (inr (x, mid, first, second)) =
    let again : number_at unsigned16 (end_of mid) mid.bytes ≡ Err e = number_not_read second in
    rw (number_read (end_of old) first, rw (end_stays first) at again) refl
