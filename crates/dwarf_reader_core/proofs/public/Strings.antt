-- Bytes either begin with exactly one string, or have no zero byte.
use Rattle.dwarf_reader_core.proofs.Common.{◌≡◌, ◌≢◌, ℕ, zero, suc, ◌+◌, ◌<◌, take, refl, sym, ap, ◌∙◌, arith, ◌⊎◌, inl, inr, List, [], ◌∷◌, All, All-nil, All-cons, cases_lt, length, length-append, length-drop, length-take, take-append-le, drop-append-le, Error, Input, after, first, IsFirst, Takes, TakesString, HasNoByte, eof_here}
use Rattle.std.proofs.Common.{get_or-take, slice_index}
use Rattle.std.proofs.lemmas.List.{get_or_append_left}
use Rattle.std.proofs.lemmas.List.Elements.{All-get_or}
use Rattle.dwarf_reader_core.specs.Appended.{followed_by}

-- a byte that is found remains after those before it
pub found_byte-left : {byte n : ℕ} {old mid : Input} → IsFirst byte old.bytes n → Takes n old mid → length mid.bytes < 1 → ⊥
found_byte-left {n = n} {old = old} found takes none =
    omega (arith, found.within, length-drop n old.bytes, ap (λ (i : Input). length i.bytes) takes.left, none)

-- no byte before the first one with a value has that value
first-not_below : {byte i j : ℕ} {bytes : List ℕ} → IsFirst byte bytes i → IsFirst byte bytes j → i < j → ⊥
first-not_below {byte} {i} {j} {bytes} a b below =
    let long = length-take j bytes in
    let here : slice_index (take j bytes) i ≡ byte = get_or-take j bytes i 0 below ∙ a.here in
    All-get_or (λ b. b ≢ byte) (take j bytes) i 0 (omega (arith, below, long, a.within)) b.before here

-- bytes have one first byte with a value
first-same : {byte i j : ℕ} {bytes : List ℕ} → IsFirst byte bytes i → IsFirst byte bytes j → i ≡ j
first-same {i = i} {j} a b =
    elim (cases_lt i j) [
      | inl below ↦ absurd (first-not_below a b below)
      | inr above ↦
          elim (cases_lt j i) [
            | inl below ↦ absurd (first-not_below b a below)
            | inr equal ↦ omega arith
          ]
    ]

-- two strings that are consumed from the same bytes are equal, and the same bytes remain
pub string_taken_once : (old s t x y : Input) → TakesString old s x → TakesString old t y → (s ≡ t) × (x ≡ y)
string_taken_once old s t x y a b =
    let same = first-same a.ends b.ends in (
      a.content ∙ ap (λ n. first n old) same ∙ sym b.content,
      a.left ∙ ap (λ n. after (n + 1) old) same ∙ sym b.left,
    )

-- bytes that begin with a string have a zero byte
pub string_not_none : (old s x : Input) (e : Error) → TakesString old s x → HasNoByte 0 old e → ⊥
string_not_none old s x e a b = All-get_or (λ b. b ≢ 0) old.bytes a.len 0 a.ends.within b.none a.ends.here

-- bytes have no zero byte, or a first zero byte at some index
zero_or_none : (bytes : List ℕ) → All (λ b. b ≢ 0) bytes ⊎ ((index : ℕ) × IsFirst 0 bytes index)
zero_or_none [] = inl (All-nil (λ b. b ≢ 0))
zero_or_none (zero ∷ bytes) = grind arith
zero_or_none (suc b ∷ bytes) =
    elim (zero_or_none bytes) [
      | inl none ↦ inl (All-cons (λ b. b ≢ 0) (suc b) bytes (λ e. omega arith) none)
      | inr found ↦
          inr (
            suc found.0,
            record {
              within = omega (arith, found.1.within);
              here = found.1.here;
              before = All-cons (λ b. b ≢ 0) (suc b) (take found.0 bytes) (λ e. omega arith) found.1.before;
            },
          )
    ]

-- bytes begin with a string, or have no zero byte
abbrev pub HasString : Input → Type 0
HasString old = ((s : Input) × (x : Input) × TakesString old s x) ⊎ ((e : Error) × HasNoByte 0 old e)

-- every input begins with a string, or has no zero byte
pub string_taken_or_none : (old : Input) → HasString old
string_taken_or_none old =
    elim (zero_or_none old.bytes) [
      | inl none ↦ inr (eof_here old, record { none = none; fault = refl })
      | inr found ↦
          let taken : TakesString old (first found.0 old) (after (found.0 + 1) old) =
          record { len = found.0; ends = found.1; content = refl; left = refl } in
          inl (first found.0 old, after (found.0 + 1) old, taken)
    ]

-- a string that is consumed is consumed with more bytes appended too
pub string_taken-more : {old string new : Input} (more : List ℕ) → TakesString old string new
    → TakesString (followed_by old more) string (followed_by new more)
string_taken-more {old} {string} {new} more is = record {
  len = is.len;
  ends = record {
    within = omega (arith, is.ends.within, length-append old.bytes more);
    here = get_or_append_left old.bytes more 0 is.len is.ends.within ∙ is.ends.here;
    before = rw (take-append-le is.len old.bytes more (omega (arith, is.ends.within))) is.ends.before;
  };
  content = grind (arith, is.content, is.ends.within, take-append-le);
  left = grind (arith, is.left, is.ends.within, drop-append-le);
}
