-- Every list of bytes has exactly one outcome.
use Rattle.dwarf_reader_core.proofs.Common.{◌≡◌, ℕ, zero, suc, ◌^◌, ◌<◌, ◌≤◌, pow-le-pow_right, List, [], ◌∷◌, length, take, drop, refl, sym, ap, ◌∙◌, arith, inl, inr, ◌⊎◌, Bool, true, false, take_all, length-take-le, take-append-drop, cases_lt, IsEncoding, NoneIsLast, Kind, Number, value, limit, is_in_range, Outcome, Value, End, Bad, HasLeb128, IsTrue, IsTruncated, HasOutcome, HasOne}
use Rattle.dwarf_reader_core.specs.Leb128.{IsMalformed, signed64, unsigned16, unsigned64}
use Rattle.dwarf_reader_core.proofs.leb.Encodings.{IsEncoding-cons, past_none, encodings_same, worth_below}

-- an encoding at the front ends within the bound
record Ends (bound : ℕ) (bytes : List ℕ) : Type 0 where
  len : ℕ
  enough : len ≤ length bytes
  short : len ≤ bound
  encoding : IsEncoding (take len bytes)

-- none of the bytes up to the bound is the last of an encoding
record IsLong (bound : ℕ) (bytes : List ℕ) : Type 0 where
  enough : bound ≤ length bytes
  none : NoneIsLast (take bound bytes)

-- the bytes end before the bound, and none of them is the last of an encoding
abbrev AreShort : ℕ → List ℕ → Type 0
AreShort bound bytes = (length bytes < bound) × NoneIsLast bytes

-- bytes have an encoding that ends within the bound, end before it does, or go on past the bound
three_ways : (bound : ℕ) (bytes : List ℕ) → Ends bound bytes ⊎ (AreShort bound bytes ⊎ IsLong bound bytes)
three_ways zero bytes = inr (inr (record { enough = omega arith; none = tt }))
three_ways (suc bound) [] = inr (inl (omega arith, tt))
three_ways (suc bound) (b ∷ bs) =
    elim (cases_lt b 128) [
      | inl last ↦ inl (record { len = 1; enough = omega arith; short = omega arith; encoding = last })
      | inr more ↦
          elim (three_ways bound bs) [
            | inl e ↦ inl (record {
              len = suc e.len;
              enough = omega (arith, e.enough);
              short = omega (arith, e.short);
              encoding = IsEncoding-cons b _ more e.encoding;
            })
            | inr (inl cut) ↦ inr (inl (omega (arith, cut.0), (more, cut.1)))
            | inr (inr long) ↦ inr (inr (record { enough = omega (arith, long.enough); none = (more, long.none) }))
          ]
    ]

-- bytes begin with an encoding, or none of them is the last of one
pub encoding_or_none : (bytes : List ℕ) → ((n : ℕ) × (n ≤ length bytes) × IsEncoding (take n bytes)) ⊎ NoneIsLast bytes
encoding_or_none bytes =
    elim (three_ways (suc (length bytes)) bytes) [
      | inl e ↦ inl (e.len, e.enough, e.encoding)
      | inr (inl cut) ↦ inr cut.1
      | inr (inr long) ↦ absurd (omega (arith, long.enough))
    ]

-- bytes that begin with an encoding have a last byte of one
pub encoding-not_none : (bytes : List ℕ) (n : ℕ) → n ≤ length bytes → IsEncoding (take n bytes) → NoneIsLast bytes → ⊥
encoding-not_none bytes n enough encoding none =
    let whole : NoneIsLast (take (length bytes) bytes) = rw (take_all (length bytes) bytes (omega arith)) none in
    omega (arith, past_none bytes (length bytes) n (omega arith) whole encoding, enough)

-- two encodings at the front of the same bytes have the same length
pub length-same : (bytes : List ℕ) (m n : ℕ) → m ≤ length bytes → n ≤ length bytes → IsEncoding (take m bytes)
    → IsEncoding (take n bytes) → m ≡ n
length-same bytes m n p q s t =
    let same = encodings_same (take m bytes) (take n bytes) (drop m bytes) (drop n bytes) s t
    (take-append-drop m bytes ∙ sym (take-append-drop n bytes)) in
    omega (arith, length-take-le m bytes p, length-take-le n bytes q, ap length same.0)

module _ (k : Kind) (bytes : List ℕ) where
  -- bytes that begin with an encoding aren't cut
  encoding-not_cut : (n : ℕ) → n ≤ length bytes → IsEncoding (take n bytes) → IsTruncated k bytes → ⊥
  encoding-not_cut n enough encoding cut = encoding-not_none bytes n enough encoding cut.unended

  -- two numbers at the front of the same bytes have the same value and the same length
  number-same : (v w : Number k) (m n : ℕ) → HasLeb128 k bytes v m → HasLeb128 k bytes w n → (v ≡ w) × (m ≡ n)
  number-same v w m n f g =
      let e = length-same bytes m n f.enough g.enough f.is_number.encoding g.is_number.encoding in
      (sym f.is_number.means ∙ ap (λ i. value k (take i bytes)) e ∙ g.is_number.means, e)

  -- bytes have at most one outcome
  outcome-same : (o p : Outcome k) → HasOutcome k bytes o → HasOutcome k bytes p → o ≡ p
  outcome-same o p f g = grind (arith, encoding-not_cut, number-same)

  -- bytes with an encoding at the front have an outcome, whether its value is in the range of the kind or not
  judged : (e : Ends (limit k) bytes) (b : Bool) → is_in_range k (value k (take e.len bytes)) ≡ b
      → (o : Outcome k) × HasOutcome k bytes o
  judged e true h = (Value (value k (take e.len bytes)) e.len, grind (arith, length-take-le))
  judged e false h =
      let none : (v : Number k) (n : ℕ) → HasLeb128 k bytes v n → ⊥ = λ v n found.
      let same = length-same bytes e.len n e.enough found.enough e.encoding found.is_number.encoding in cc in
      (Bad, record { no_number = none; not_cut = encoding-not_cut e.len e.enough e.encoding })

  -- bytes have an outcome
  outcome-some : (o : Outcome k) × HasOutcome k bytes o
  outcome-some =
      elim (three_ways (limit k) bytes) [
        | inl e ↦ judged e _ refl
        | inr (inl cut) ↦ (End, record { short = cut.0; unended = cut.1 })
        | inr (inr long) ↦ (Bad, grind (arith, past_none, length-take-le))
      ]

  -- bytes have exactly one outcome
  pub outcome-exactly_one : HasOne (HasOutcome k bytes)
  outcome-exactly_one = (outcome-some.0, outcome-some.1, λ p h. outcome-same p outcome-some.0 h outcome-some.1)

-- the value of fewer bytes than the limit of a kind is in its range
short_fits : (k : Kind) (bytes : List ℕ) (n : ℕ) → n ≤ length bytes → n < limit k
    → IsTrue (is_in_range k (value k (take n bytes)))
short_fits unsigned64 bytes n enough short = grind (arith, worth_below bytes n 9 enough (omega arith))
short_fits unsigned16 bytes n enough short = grind (arith, worth_below bytes n 2 enough (omega arith))
short_fits signed64 bytes n enough short =
    let low = worth_below bytes n 9 enough (omega arith) in
    let place : 128 ^ length (take n bytes) ≤ 2 ^ 63 =
    pow-le-pow_right {n = 128} (omega arith) {i = length (take n bytes)} {j = 9}
    (omega (arith, short, length-take-le n bytes enough)) in
    grind (arith, low, place)

-- malformed bytes are at least as many as the limit of the kind
pub malformed-long : (k : Kind) (bytes : List ℕ) → IsMalformed k bytes → limit k ≤ length bytes
malformed-long k bytes bad =
    elim (cases_lt (length bytes) (limit k)) [
      | inr long ↦ long
      | inl short ↦
          elim (three_ways (limit k) bytes) [
            | inl e ↦
                absurd (bad.no_number (value k (take e.len bytes)) e.len (record {
                  enough = e.enough;
                  is_number = record {
                    encoding = e.encoding;
                    within = omega (arith, length-take-le e.len bytes e.enough, e.short);
                    means = refl;
                    in_range = short_fits k bytes e.len e.enough (omega (arith, short, e.enough));
                  };
                }))
            | inr (inl cut) ↦ absurd (bad.not_cut (record { short = cut.0; unended = cut.1 }))
            | inr (inr long) ↦ long.enough
          ]
    ]
