-- Lemmas on encodings of LEB128 numbers.
use Rattle.dwarf_reader_core.proofs.Common.{◌≡◌, ℕ, zero, suc, ◌+◌, ◌*◌, ◌%◌, ◌^◌, ◌<◌, ◌≤◌, List, [], ◌∷◌, ◌++◌, length, take, refl, arith, ℤ, IsTrue, nat_le, FitsSigned, w64, length-take-le, pow-suc, pow-le-pow_right, IsEncoding, NoneIsLast, unsigned_value, is_negative, is_in_range, signed64}
use Rattle.dwarf_reader_core.proofs.leb.Bits.{pow_digits}

-- bytes of which none is the last of an encoding, and one more with a continuation bit, have no last one either
pub NoneIsLast-push : (xs : List ℕ) (b : ℕ) → NoneIsLast xs → 128 ≤ b → NoneIsLast (xs ++ b ∷ [])
NoneIsLast-push [] b none h = (h, tt)
NoneIsLast-push (x ∷ xs) b none h = (none.0, NoneIsLast-push xs b none.1 h)

-- a byte with a continuation bit and an encoding after it are an encoding
pub IsEncoding-cons : (b : ℕ) (s : List ℕ) → 128 ≤ b → IsEncoding s → IsEncoding (b ∷ s)
IsEncoding-cons b s more encoding = grind arith

-- bytes of which none is the last, and a byte below 128, are an encoding
pub IsEncoding-push : (xs : List ℕ) (b : ℕ) → NoneIsLast xs → b < 128 → IsEncoding (xs ++ b ∷ [])
IsEncoding-push [] b none h = h
IsEncoding-push (x ∷ []) b none h = (none.0, h)
IsEncoding-push (x ∷ y ∷ xs) b none h = (none.0, IsEncoding-push (y ∷ xs) b none.1 h)

-- the last byte of an encoding is below 128
pub IsEncoding-last : (xs : List ℕ) (b : ℕ) → IsEncoding (xs ++ b ∷ []) → b < 128
IsEncoding-last [] b encoding = encoding
IsEncoding-last (x ∷ []) b encoding = encoding.1
IsEncoding-last (x ∷ y ∷ xs) b encoding = IsEncoding-last (y ∷ xs) b encoding.1

-- one more byte adds its digit to the value of bytes, at the place after them
pub unsigned_value-push : (xs : List ℕ) (b : ℕ)
    → unsigned_value (xs ++ b ∷ []) ≡ unsigned_value xs + b % 128 * 128 ^ length xs
unsigned_value-push [] b = omega arith
unsigned_value-push (x ∷ xs) b = rw pow-suc (omega (arith, unsigned_value-push xs b))

-- the value of n bytes is below 128 ^ n
pub unsigned_value-lt : (xs : List ℕ) → unsigned_value xs < 128 ^ length xs
unsigned_value-lt [] = omega arith
unsigned_value-lt (x ∷ xs) = omega (arith, unsigned_value-lt xs, pow-suc 128 (length xs))

-- an encoding at the front is longer than bytes at the front of which none is the last
pub past_none : (bytes : List ℕ) (k n : ℕ) → k ≤ length bytes → NoneIsLast (take k bytes)
    → IsEncoding (take n bytes) → k < n
past_none bytes zero zero enough none encoding = absurd encoding
past_none bytes zero (suc n) enough none encoding = omega arith
past_none [] (suc k) n enough none encoding = absurd (omega arith)
past_none (b ∷ bs) (suc k) zero enough none encoding = absurd encoding
past_none (b ∷ bs) (suc k) (suc zero) enough none encoding = absurd (omega (arith, none.0, encoding))
past_none (b ∷ []) (suc k) (suc (suc n)) enough none encoding = absurd (omega (arith, none.0, encoding))
past_none (b ∷ c ∷ bs) (suc k) (suc (suc n)) enough none encoding =
    omega (arith, past_none (c ∷ bs) k (suc n) (omega arith) none.1 encoding.1)

-- the value of n bytes is below each place from n on
pub worth_below : (bytes : List ℕ) (n m : ℕ) → n ≤ length bytes → n ≤ m → unsigned_value (take n bytes) < 2 ^ (7 * m)
worth_below bytes n m enough within = grind (arith, unsigned_value-lt, pow-le-pow_right, pow_digits, length-take-le)

-- bytes are negative if their last byte has the sign bit
pub is_negative-push : (xs : List ℕ) (b : ℕ) → is_negative (xs ++ b ∷ []) ≡ nat_le 64 (b % 128)
is_negative-push [] b = refl
is_negative-push (x ∷ []) b = refl
is_negative-push (x ∷ y ∷ xs) b = is_negative-push (y ∷ xs) b

-- each i64 is in the range of signed numbers of 64 bits
pub i64-in_range : (v : ℤ) → FitsSigned w64 v → IsTrue (is_in_range signed64 v)
i64-in_range v fits = grind arith

-- no encoding is the beginning of another
pub encodings_same : (a b x y : List ℕ) → IsEncoding a → IsEncoding b → a ++ x ≡ b ++ y → (a ≡ b) × (x ≡ y)
encodings_same [] b x y is_a is_b same = absurd is_a
encodings_same (p ∷ ps) [] x y is_a is_b same = absurd is_b
encodings_same (p ∷ []) (q ∷ []) x y is_a is_b same = (cc, cc)
encodings_same (p ∷ []) (q ∷ d ∷ ds) x y is_a is_b same = let equal : p ≡ q = cc in absurd (omega arith)
encodings_same (p ∷ c ∷ cs) (q ∷ []) x y is_a is_b same = let equal : p ≡ q = cc in absurd (omega arith)
encodings_same (p ∷ c ∷ cs) (q ∷ d ∷ ds) x y is_a is_b same =
    let tails : (c ∷ cs) ++ x ≡ (d ∷ ds) ++ y = cc in
    let rest = encodings_same (c ∷ cs) (d ∷ ds) x y is_a.1 is_b.1 tails in
    (cc, rest.1)
