-- The shortest encodings of numbers, from the last byte on.
use Rattle.dwarf_reader_core.proofs.Common.{◌≡◌, ◌≢◌, ℕ, ◌+◌, ◌*◌, ◌%◌, ◌<◌, ◌≤◌, Bool, cond, List, [], ◌∷◌, ◌++◌, length, IsTrue, arith, refl, sym, ◌∙◌, pos, ◌+ℤ◌, ◌-ℤ◌, ◌*ℤ◌, pow-suc, ints, length-append, take-append-le, take_all, All-head, All-tail, All-nil, All-cons, IsEncoding, Kind, unsigned64, unsigned16, signed64, Number, value, limit, is_in_range, HasLeb128, Encodes, IsShortest}
use Rattle.dwarf_reader_core.proofs.leb.Encodings.{IsEncoding-cons}

-- the number that has this lowest digit and this number above it
abbrev pub join : (k : Kind) → ℕ → Number k → Number k
join unsigned64 digit above = digit + 128 * above
join unsigned16 digit above = digit + 128 * above
join signed64 digit above = pos digit +ℤ (pos 128 *ℤ above)

-- a number has one lowest digit, and one number above it
join-same : (k : Kind) (digit other : ℕ) (above above' : Number k) → digit < 128 → other < 128
    → join k digit above ≡ join k other above' → (digit ≡ other) × (above ≡ above')
join-same unsigned64 digit other above above' small small' same = omega arith
join-same unsigned16 digit other above above' small small' same = omega arith
join-same signed64 digit other above above' small small' same = (omega (arith, ints), omega (arith, ints))

-- a number with its sign is its lowest digit and 128 times the number above it with that sign
with_digit : (negative : Bool) (digit above weight : ℕ)
    → pos (digit + 128 * above) -ℤ pos (cond negative (weight * 128) 0)
    ≡ pos digit +ℤ (pos 128 *ℤ (pos above -ℤ pos (cond negative weight 0)))
with_digit negative digit above weight = grind arith

-- the number of an encoding is its lowest digit and the number of the other bytes
value-cons : (k : Kind) (b : ℕ) (bytes : List ℕ) → IsEncoding bytes
    → value k (b ∷ bytes) ≡ join k (b % 128) (value k bytes)
value-cons unsigned64 b bytes encoding = refl
value-cons unsigned16 b bytes encoding = refl
value-cons signed64 b [] encoding = absurd encoding
value-cons signed64 b (c ∷ bytes) encoding = grind (arith, pow-suc, with_digit)

-- two bytes that are the same number are equal
value-one : (k : Kind) (b c : ℕ) → b < 128 → c < 128 → value k (b ∷ []) ≡ value k (c ∷ []) → b ≡ c
value-one unsigned64 b c small small' same = omega arith
value-one unsigned16 b c small small' same = omega arith
value-one signed64 b c small small' same = grind arith

-- no byte alone is the number
abbrev pub IsLong : (k : Kind) → Number k → Type 0
IsLong k number = (b : ℕ) → b < 128 → value k (b ∷ []) ≢ number

-- any other encoding of the number of one byte is longer
one-shorter : (k : Kind) (number : Number k) (b : ℕ) → b < 128 → value k (b ∷ []) ≡ number
    → (other : List ℕ) → Encodes k other number → other ≢ (b ∷ []) → 1 < length other
one-shorter k number b small is [] encodes apart = absurd encodes.encoding
one-shorter k number b small is (c ∷ []) encodes apart =
    let same = value-one k c b encodes.encoding small (encodes.means ∙ sym is) in absurd (apart cc)
one-shorter k number b small is (c ∷ d ∷ bytes) encodes apart = omega arith

-- a byte alone is the shortest encoding of its number
pub IsShortest-one : (k : Kind) (number : Number k) (b : ℕ) → b < 128 → value k (b ∷ []) ≡ number
    → IsShortest k number (b ∷ [])
IsShortest-one k number b small is = record {
  encodes = record {
    are_bytes = All-cons (λ x. x < 256) b [] (omega arith) (All-nil (λ x. x < 256));
    encoding = small;
    means = is;
  };
  shorter = one-shorter k number b small is;
}

module _ (k : Kind) (number above : Number k) (digit : ℕ) (tail : List ℕ) (small : digit < 128) (long : IsLong k number)
    (is : number ≡ join k digit above) (shortest : IsShortest k above tail) where
  -- any other encoding of a number that no byte alone is, is longer than its lowest digit and the shortest one above it
  more-shorter : (other : List ℕ) → Encodes k other number → other ≢ ((digit + 128) ∷ tail)
      → length ((digit + 128) ∷ tail) < length other
  more-shorter [] encodes apart = absurd encodes.encoding
  more-shorter (b ∷ []) encodes apart = absurd (long b encodes.encoding encodes.means)
  more-shorter (b ∷ c ∷ bytes) encodes apart =
      let byte = All-head (λ x. x < 256) b (c ∷ bytes) encodes.are_bytes in
      let parts = join-same k (b % 128) digit (value k (c ∷ bytes)) above (omega arith) small
      (sym (value-cons k b (c ∷ bytes) encodes.encoding.1) ∙ encodes.means ∙ is) in
      let b_is : b ≡ digit + 128 = omega (arith, encodes.encoding.0) in
      let following : Encodes k (c ∷ bytes) above = record {
        are_bytes = All-tail (λ x. x < 256) b (c ∷ bytes) encodes.are_bytes;
        encoding = encodes.encoding.1;
        means = parts.1;
      } in
      let longer = shortest.shorter (c ∷ bytes) following (λ tail_is. apart cc) in
      omega arith

  -- the lowest digit goes before the shortest encoding of the number above it
  pub IsShortest-more : IsShortest k number ((digit + 128) ∷ tail)
  IsShortest-more =
      let rest = shortest.encodes in
      let low : (digit + 128) % 128 ≡ digit = omega arith in
      record {
        encodes = record {
          are_bytes = All-cons (λ x. x < 256) (digit + 128) tail (omega arith) rest.are_bytes;
          encoding = IsEncoding-cons (digit + 128) tail (omega arith) rest.encoding;
          means = rw (value-cons k (digit + 128) tail rest.encoding, low, rest.means, is);
        };
        shorter = more-shorter;
      }

-- bytes within the limit of a kind that encode a number in its range are read as that number, whatever follows
pub HasLeb128_append : (k : Kind) (number : Number k) (bytes rest : List ℕ) → Encodes k bytes number
    → length bytes ≤ limit k → IsTrue (is_in_range k number) → HasLeb128 k (bytes ++ rest) number (length bytes)
HasLeb128_append k number bytes rest encodes within in_range = grind (arith, take-append-le, take_all, length-append)
