-- The digits of numbers in a base.
use Rattle.dwarf_listing_core.proofs.Common.{◌≡◌, ◌≢◌, ℕ, zero, suc, ◌-◌, ◌^◌, sym, ◌∙◌, ◌<◌, ◌≤◌, ◌/◌, ◌%◌, drop, false, List, [], ◌∷◌, ◌++◌, length, refl, arith, append_assoc, drop-set, digit_glyph, digits_onto}
use Rattle.std.proofs.Common.{set}
use Rattle.std.proofs.Math.Nat.{pow-suc}
use Rattle.std.specs.Fmt.{digits}
use Rattle.dwarf_read_core.specs.ErrorText.{hexadecimal}

-- the digits of a number before a text are its digits, joined with the text
digits_onto-append : (base k n : ℕ) (text : List ℕ)
    → digits_onto k base false n text ≡ digits_onto k base false n [] ++ text
digits_onto-append base zero n text = refl
digits_onto-append base (suc k) n text =
    let digit = digit_glyph false (n % base) in
    let more = digits_onto-append base k (n / base) (digit ∷ text) in
    let alone = digits_onto-append base k (n / base) (digit ∷ []) in
    grind (arith, append_assoc)

-- a number below the base puts one digit before a text
digits_onto-last : (base i n : ℕ) (text : List ℕ) → 0 < i → n / base ≡ 0
    → digits_onto i base false n text ≡ digit_glyph false (n % base) ∷ text
digits_onto-last base zero n text some last = absurd (omega arith)
digits_onto-last base (suc k) n text some last = rw last refl

-- more places than the hexadecimal digits of a number take don't change them
digits_onto-enough : (j k n : ℕ) (text : List ℕ) → 0 < k → k ≤ j → n < 16 ^ k
    → digits_onto j 16 false n text ≡ digits_onto k 16 false n text
digits_onto-enough zero k n text some most small = absurd (omega arith)
digits_onto-enough (suc j) zero n text some most small = absurd (omega arith)
digits_onto-enough (suc j) (suc zero) n text some most small =
    let last : n / 16 ≡ 0 = omega arith in
    grind (arith, digits_onto-last)
digits_onto-enough (suc j) (suc (suc k)) n text some most small =
    let fewer = digits_onto-enough j (suc k) (n / 16) (digit_glyph false (n % 16) ∷ text) (omega arith) (omega arith)
    (omega (arith, pow-suc 16 (suc k))) in
    grind arith

-- the hexadecimal digits of a number of 64 bits, put into 16 places before a text, are before that text
pub hexadecimal-placed : (n : ℕ) (text : List ℕ) → n < 2 ^ 64 → digits_onto 16 16 false n text ≡ hexadecimal n ++ text
unfolding digits
hexadecimal-placed n text small =
    sym (digits_onto-enough 64 16 n text (omega arith) (omega arith) small) ∙ digits_onto-append 16 64 n text

-- a number of at least the base puts its last digit before a text, and then its other digits
digits_onto-more : (base i n : ℕ) (text : List ℕ) → 0 < i → n / base ≢ 0
    → digits_onto i base false n text ≡ digits_onto (i - 1) base false (n / base) (digit_glyph false (n % base) ∷ text)
digits_onto-more base zero n text some more = absurd (omega arith)
digits_onto-more base (suc k) n text some more = grind arith

-- putting a byte before a place puts it before the bytes from that place on
drop-put : (bytes : List ℕ) (i byte : ℕ) → 0 < i → i ≤ length bytes
    → drop (i - 1) (set bytes (i - 1) byte) ≡ byte ∷ drop i bytes
drop-put bytes i byte some within = grind (arith, drop-set)

module _ (bytes : List ℕ) (i n byte : ℕ) (some : 0 < i) (within : i ≤ length bytes)
    (digit : byte ≡ digit_glyph false (n % 16)) where
  -- the digit that is put is the whole number, if the number is below 16
  pub last_digit_put : n / 16 ≡ 0
      → drop (i - 1) (set bytes (i - 1) byte) ≡ digits_onto i 16 false n (drop i bytes)
  last_digit_put last = grind (arith, drop-put, digits_onto-last)

  -- the digit that is put, with those of the rest in front, are the digits of the number
  pub next_digit_put : n / 16 ≢ 0
      → digits_onto (i - 1) 16 false (n / 16) (drop (i - 1) (set bytes (i - 1) byte))
      ≡ digits_onto i 16 false n (drop i bytes)
  next_digit_put more = grind (arith, drop-put, digits_onto-more)
