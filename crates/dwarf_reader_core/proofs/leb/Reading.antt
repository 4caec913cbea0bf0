-- Reading a LEB128 number, one byte after the other.
use Rattle.dwarf_reader_core.proofs.Common.{common_steps, List, ◌-◌, ◌≡◌, ℕ, ◌+◌, ◌*◌, ◌%◌, ◌^◌, ◌<◌, ◌≤◌, [], ◌∷◌, ◌++◌, length, get_or, take, refl, sym, ap, ◌∙◌, arith, inl, inr, IsTrue, ◌↔◌, ◌≢◌, Bool, ℤ, pos, ◌-ℤ◌, nat_le, if◌then◌else◌, lt-ltb, ltb-true, bit_or, to_z, of_z, w64, FitsSigned, length-take-le, take_all, Error, IsTooShort, Input, after, Takes, TakesByte, ints, to_z-of_z}
use Rattle.dwarf_base_core.specs.declared.error.Error.TheVariants.{BadUnsignedLeb128, BadSignedLeb128}
use Rattle.dwarf_reader_core.specs.Leb128.{unsigned64, unsigned16, signed64, IsEncoding, NoneIsLast, unsigned_value, signed_value, is_negative, Kind, Number, value as value_of, limit, is_in_range, overflow_error, HasLeb128, IsTruncated, ReadsLeb128, ReadsNoLeb128, TakesNoEncoding, TakesEncoding}
use Rattle.dwarf_reader_core.proofs.leb.Encodings.{i64-in_range, IsEncoding-cons, NoneIsLast-push, IsEncoding-push, IsEncoding-last, unsigned_value-push, worth_below, past_none, is_negative-push}
use Rattle.dwarf_reader_core.proofs.leb.Bits.{pow_digits, or_digit, tenth_out}
use Rattle.dwarf_reader_core.proofs.public.Consuming.{after-after, after-zero, byte_front}

-- the first k bytes are consumed, none of them is the last of an encoding, and the value is that of their digits
pub record Begun (old : Input) (k : ℕ) (mid : Input) (value : ℕ) : Type 0 where
  pub enough : k ≤ length old.bytes
  pub none : NoneIsLast (take k old.bytes)
  pub left : mid ≡ after k old
  pub worth : value ≡ unsigned_value (take k old.bytes)

-- what represents a reader of borrowed bytes, by the position after the last
abbrev pub slice_input : List ℕ → ℕ → Bool → Input
slice_input bytes end is_big = record { bytes = bytes; position = end - length bytes; is_big = is_big }

-- before the first byte the value is 0
pub begun_none : (old : Input) → Begun old 0 old 0
begun_none old = record { enough = omega arith; none = tt; left = sym (after-zero old); worth = refl }

-- the value of k digits has at most 7 * k bits
pub begun_below : {old mid : Input} {k value : ℕ} → Begun old k mid value → value < 2 ^ (7 * k)
begun_below {old} {k = k} b = grind (arith, worth_below)

-- the value of nine digits has at most 63 bits
pub begun_below_nine : {old mid : Input} {k value : ℕ} → Begun old k mid value → k ≡ 9 → value < 2 ^ 63
begun_below_nine b nine = rw nine at (begun_below b)

-- without a byte after the first k, all bytes are consumed and no encoding ends in them
pub begun_cut : {old mid new : Input} {k value : ℕ} {e : Error} → Begun old k mid value → IsTooShort 1 mid e new
    → TakesNoEncoding old e new × (k ≡ length old.bytes)
begun_cut {old} {k = k} b ends =
    let all : k ≡ length old.bytes = grind (arith, common_steps) in
    let whole : take k old.bytes ≡ old.bytes = take_all k old.bytes (omega arith) in (
      record {
        none = rw whole at b.none;
        left = ends.left ∙ b.left ∙ ap (λ (n : ℕ). after n old) all;
        fault = rw (← ends.left) at ends.fault;
      },
      all,
    )

-- a number that bytes are missing for, within the limit of its kind, is rejected
pub cut_rejects : {old mid new : Input} {k value : ℕ} {e : Error} (kind : Kind) → Begun old k mid value
    → k < limit kind → IsTooShort 1 mid e new → ReadsNoLeb128 kind old e new
cut_rejects kind b within ends =
    let cut = begun_cut b ends in
    let short : IsTruncated kind _ = record { short = rw (cut.1) at within; unended = cut.0.none } in
    inl (record { cut = short; left = cut.0.left; fault = cut.0.fault })

module _ {old mid new : Input} {k value byte : ℕ} (b : Begun old k mid value) (t : TakesByte mid byte new) where
  -- the next byte is consumed after the first k
  next : (k < length old.bytes) × (take (k + 1) old.bytes ≡ take k old.bytes ++ byte ∷ []) × (new ≡ after (k + 1) old)
  next = grind (arith, common_steps, after-after, byte_front t)

  -- the value of k + 1 digits is that of k digits and the next one
  next_worth : unsigned_value (take (k + 1) old.bytes) ≡ value + byte % 128 * 2 ^ (7 * k)
  next_worth = grind (arith, next, unsigned_value-push, length-take-le, pow_digits)

  -- the value with one more digit is below the next place
  pub next_below : (worth bits : ℕ) → worth ≡ value + byte % 128 * 2 ^ (7 * k) → bits ≡ 7 * k + 7 → worth < 2 ^ bits
  next_below worth bits is bits_is = grind (arith, next, next_worth, worth_below)

  -- a byte with a continuation bit leads to the state after k + 1 bytes
  pub next_continues : (worth : ℕ) → 128 ≤ byte → worth ≡ value + byte % 128 * 2 ^ (7 * k) → Begun old (k + 1) new worth
  next_continues worth more is = record {
    enough = omega (arith, next.0);
    none = rw (next.1) (NoneIsLast-push (take k old.bytes) byte b.none more);
    left = next.2;
    worth = is ∙ sym next_worth;
  }

  -- a byte without a continuation bit is the last of an encoding
  next_ends : byte < 128 → IsEncoding (take (k + 1) old.bytes)
  next_ends last = rw (next.1) (IsEncoding-push (take k old.bytes) byte b.none last)

  -- a byte without a continuation bit ends an encoding of any length
  pub next_encoding : byte < 128 → TakesEncoding old new
  next_encoding last = record { len = k + 1; enough = omega (arith, next.0); encoding = next_ends last; left = next.2 }

  -- the number is read if its encoding ends within the limit and its value is in the range of the kind
  next_reads : (kind : Kind) (v : Number kind) → byte < 128 → k < limit kind
      → value_of kind (take (k + 1) old.bytes) ≡ v → IsTrue (is_in_range kind v) → ReadsLeb128 kind old v new
  next_reads kind v last short means in_range =
      let has : HasLeb128 kind old.bytes v (k + 1) = grind (arith, next, next_ends, length-take-le) in
      record { len = k + 1; has = has; left = next.2 }

  -- reading fails at the limit if no encoding that ends there has a value in range
  next_rejects : (kind : Kind) → k + 1 ≡ limit kind
      → (byte < 128 → IsTrue (is_in_range kind (value_of kind (take (k + 1) old.bytes))) → ⊥)
      → ReadsNoLeb128 kind old (overflow_error kind) new
  next_rejects kind whole out =
      let none : (v : Number kind) (m : ℕ) → HasLeb128 kind old.bytes v m → ⊥ = λ v m found.
      let past = past_none old.bytes k m b.enough b.none found.is_number.encoding in
      let m_is : m ≡ k + 1 = omega (arith, past, found.is_number.within, length-take-le m old.bytes found.enough) in
      let has = rw m_is at found.is_number in
      out (IsEncoding-last (take k old.bytes) byte (rw (next.1) at has.encoding)) (rw has.means has.in_range) in
      let cut : IsTruncated kind old.bytes → ⊥ = λ h. omega (arith, next.0, h.short) in
      inr (record { bad = record { no_number = none; not_cut = cut }; left = rw (← whole) next.2; fault = refl })

  -- the signed value is that of the digits, less the next place if the last digit is at least 64
  next_signed : (worth bits : ℕ) (sign : Bool) → worth ≡ value + byte % 128 * 2 ^ (7 * k) → bits ≡ 7 * k + 7
      → (IsTrue sign ↔ (64 ≤ byte % 128))
      → signed_value (take (k + 1) old.bytes) ≡ pos worth -ℤ pos (if sign then 2 ^ bits else 0)
  next_signed worth bits sign is bits_is sign_is =
      let signs : is_negative (take (k + 1) old.bytes) ≡ sign = grind (arith, next, is_negative-push) in
      let turn : bits ≡ 7 * (k + 1) = omega arith in
      rw (signs, length-take-le (k + 1) old.bytes (omega (arith, next.0)), next_worth, is, turn, pow_digits (k + 1))

  -- a byte without a continuation bit ends an unsigned number, within ten bytes and 64 bits
  pub reads_unsigned : (worth : ℕ) → byte < 128 → k < 10 → worth ≡ value + byte % 128 * 2 ^ (7 * k) → worth < 2 ^ 64
      → ReadsLeb128 unsigned64 old worth new
  reads_unsigned worth last short is fits =
      next_reads unsigned64 worth last short (next_worth ∙ sym is) (lt-ltb _ _ fits)

  -- a tenth byte of 0 or 1 ends an unsigned number
  pub reads_tenth_unsigned : (digit : ℕ) → k ≡ 9 → byte ≤ 1 → digit ≡ byte
      → ReadsLeb128 unsigned64 old (bit_or value (digit * 2 ^ 63 % 2 ^ 64)) new
  reads_tenth_unsigned digit nine small same =
      let worth = rw nine at next_worth in
      let below = begun_below_nine b nine in
      let sum = or_digit value digit 63 1 64 below (omega arith) (omega arith) in
      next_reads unsigned64 _ (omega arith) (omega arith) (rw nine (omega (arith, worth, sum)))
      (lt-ltb _ _ (omega (arith, sum)))

  -- ten bytes are no unsigned number if the tenth is above 1
  pub rejects_tenth_unsigned : k ≡ 9 → 1 < byte → ReadsNoLeb128 unsigned64 old BadUnsignedLeb128 new
  rejects_tenth_unsigned nine large =
      let worth = rw nine at next_worth in
      next_rejects unsigned64 (omega arith) (λ last has. omega (arith, worth, ltb-true _ _ (rw nine at has)))

  -- a byte without a continuation bit ends a short unsigned number, within three bytes and 16 bits
  pub reads_short : (worth : ℕ) → byte < 128 → k < 3 → worth ≡ value + byte % 128 * 2 ^ (7 * k) → worth < 2 ^ 16
      → ReadsLeb128 unsigned16 old worth new
  reads_short worth last short is fits = next_reads unsigned16 worth last short (next_worth ∙ sym is) (lt-ltb _ _ fits)

  -- three bytes are no short unsigned number if the third is above 3
  pub rejects_third_short : k ≡ 2 → 3 < byte → ReadsNoLeb128 unsigned16 old BadUnsignedLeb128 new
  rejects_third_short two large =
      let worth = rw two at next_worth in
      next_rejects unsigned16 (omega arith) (λ last has. omega (arith, worth, ltb-true _ _ (rw two at has)))

  -- a byte without a continuation bit ends a signed number, within ten bytes and 64 bits
  pub reads_signed : (v : ℤ) (worth bits : ℕ) (sign : Bool) → byte < 128 → k < 10
      → worth ≡ value + byte % 128 * 2 ^ (7 * k) → bits ≡ 7 * k + 7 → (IsTrue sign ↔ (64 ≤ byte % 128))
      → v ≡ pos worth -ℤ pos (if sign then 2 ^ bits else 0) → FitsSigned w64 v
      → ReadsLeb128 signed64 old (to_z w64 (of_z w64 v)) new
  reads_signed v worth bits sign last short is bits_is sign_is v_is fits =
      let value_is = next_signed worth bits sign is bits_is sign_is ∙ sym v_is in
      rw to_z-of_z (next_reads signed64 v last short value_is (i64-in_range v fits))

  -- a tenth byte of 0 or 127 ends a signed number
  pub reads_tenth_signed : (v : ℤ) (sign : Bool) → k ≡ 9 → byte ≡ (if sign then 127 else 0)
      → v ≡ pos value -ℤ pos (if sign then 2 ^ 63 else 0) → FitsSigned w64 v
      → ReadsLeb128 signed64 old (to_z w64 (of_z w64 v)) new
  reads_tenth_signed v sign nine byte_is v_is fits =
      let is = next_signed (value + byte % 128 * 2 ^ 63) 70 sign (rw nine refl) (omega arith) (grind arith) in
      let value_is : signed_value (take (k + 1) old.bytes) ≡ v = grind (arith, ints) in
      rw to_z-of_z (next_reads signed64 v (grind arith) (omega arith) value_is (i64-in_range v fits))

  -- ten bytes are no signed number if the tenth is neither 0 nor 127
  pub rejects_tenth_signed : k ≡ 9 → byte ≢ 0 → byte ≢ 127 → ReadsNoLeb128 signed64 old BadSignedLeb128 new
  rejects_tenth_signed nine nonzero other = next_rejects signed64 (omega arith) (λ last has.
      tenth_out value (byte % 128) _ (begun_below_nine b nine) (omega arith) (omega arith) (omega arith)
      (next_signed _ 70 (nat_le 64 (byte % 128)) (rw nine refl) (omega arith) (grind arith)) has)

-- an encoding that begins with a continued byte ends at the first byte without a continuation bit
pub encoding_found : {old mid new : Input} {byte : ℕ} (n : ℕ) → TakesByte old byte mid → 128 ≤ byte
    → NoneIsLast (take n mid.bytes) → get_or mid.bytes n 0 < 128 → Takes (n + 1) mid new → TakesEncoding old new
encoding_found {old} {mid} {new} {byte} n t more none last next =
    let parts : take (n + 2) old.bytes ≡ byte ∷ (take n mid.bytes ++ get_or mid.bytes n 0 ∷ []) =
    grind (arith, common_steps, byte_front t) in
    let rest = IsEncoding-push (take n mid.bytes) (get_or mid.bytes n 0) none last in
    record {
      len = n + 2;
      enough = grind (arith, common_steps);
      encoding = rw parts (IsEncoding-cons byte (take n mid.bytes ++ get_or mid.bytes n 0 ∷ []) more rest);
      left = grind (arith, after-after);
    }
