-- The function that reads a LEB128 number returns what the definition says, and nothing else.
use Rattle.dwarf_read_core.proofs.Common.{common_steps, ◌≡◌, ℕ, zero, suc, ◌<◌, ◌≤◌, false, eqb, ltb, List, [], ◌∷◌, ◌++◌, length, drop, Option, Some, None, Result, Ok, Err, refl, sym, ap, ◌∙◌, arith, ◌⊎◌, inl, inr, length-append, take-append-drop, take, ne_eqb, ltb-true, lt-ltb, le-ltb, Error, Kind, Number, limit, value, is_in_range, overflow_error, IsEncoding, NoneIsLast, IsLeb128, HasLeb128, IsTruncated, IsMalformed, ReadsLeb128, ReadsNoLeb128, Input, end_of, eof, encoding_at, number_from, number_at, HasOutcome, returned, failed, outcome-cond, IfOk, MatchOption, nat_tests}
use Rattle.std.proofs.Math.Seq.{take-append_seam}
use Rattle.dwarf_reader_core.proofs.public.Consuming.{end_of-after}

-- an encoding of a number has at least one byte
pub encoding-nonempty : (bytes : List ℕ) → IsEncoding bytes → 0 < length bytes
encoding-nonempty bytes h = grind (arith, common_steps)

-- a number that the test finds not equal to 0 is above 0
pub number-positive : (n : ℕ) → eqb n 0 ≡ false → 0 < n
number-positive n e = grind arith

-- the test finds a number above 0 not equal to 0
pub positive-nonzero : (n : ℕ) → 0 < n → eqb n 0 ≡ false
positive-nonzero n lt = ne_eqb n 0 (λ e. omega arith)

-- bytes that begin with an encoding aren't empty
pub encoding-begins : (front rest : List ℕ) → IsEncoding front → eqb (length (front ++ rest)) 0 ≡ false
encoding-begins front rest is =
    positive-nonzero (length (front ++ rest)) (omega (arith, length-append front rest, encoding-nonempty front is))

-- ---- the encoding at the front

-- an encoding of at most n bytes is split from the front of the bytes, whatever follows it
pub encoding_at-string : (s rest : List ℕ) (n : ℕ) → IsEncoding s → length s ≤ n
    → encoding_at n (s ++ rest) ≡ Some (s, rest)
unfolding encoding_at
encoding_at-string [] rest n encoding short = absurd encoding
encoding_at-string (b ∷ s) rest zero encoding short = absurd (omega arith)
encoding_at-string (b ∷ []) rest (suc n) encoding short = rw (lt-ltb b 128 encoding) refl
encoding_at-string (b ∷ c ∷ s) rest (suc n) encoding short =
    grind (arith, (encoding_at-string (c ∷ s) rest n encoding.1 (omega arith)))

-- an encoding of at most n bytes is at the front of bytes, and this remains
pub record IsSplit (n : ℕ) (bytes front rest : List ℕ) : Type 0 where
  pub parts : bytes ≡ front ++ rest
  pub encoding : IsEncoding front
  pub short : length front ≤ n

-- an encoding of at most n bytes is split from the front, or too few bytes have no last byte
encoding_split : (n : ℕ) (bytes : List ℕ)
    → MatchOption (encoding_at n bytes) (length bytes < n → NoneIsLast bytes) (λ x. IsSplit n bytes x.0 x.1)
unfolding encoding_at
encoding_split zero bytes = λ short. absurd (omega arith)
encoding_split (suc n) [] = λ _. tt
encoding_split (suc n) (b ∷ bytes) = grind (arith, nat_tests, (encoding_split n bytes))

-- if none of the bytes is the last of an encoding, nothing is split from their front
pub encoding_at-unended : (n : ℕ) (bytes : List ℕ) → NoneIsLast bytes → encoding_at n bytes ≡ None
unfolding encoding_at
encoding_at-unended zero bytes high = refl
encoding_at-unended (suc n) [] high = refl
encoding_at-unended (suc n) (b ∷ bytes) high = rw (le-ltb b 128 high.0, encoding_at-unended n bytes high.1) refl

-- ---- the number at the front

-- a number that bytes encode is read from their front, and what follows them remains
pub number_at-string : (k : Kind) (end : ℕ) (front rest : List ℕ) (number : Number k) → IsLeb128 k front number
    → number_at k end (front ++ rest) ≡ Ok (number, rest)
unfolding number_at
number_at-string k end front rest number s = grind (arith, encoding_at-string)

-- bytes that end before their number does are read as an `UnexpectedEof` at the end
pub number_at-cut : (k : Kind) (end : ℕ) (bytes : List ℕ) → IsTruncated k bytes → number_at k end bytes ≡ Err (eof end)
unfolding number_at
number_at-cut k end bytes c = grind (arith, encoding_at-unended)

-- a number is at the front of bytes, and this remains
pub record Found (k : Kind) (bytes : List ℕ) (number : Number k) (rest : List ℕ) : Type 0 where
  pub front : List ℕ
  pub parts : bytes ≡ front ++ rest
  pub string : IsLeb128 k front number

-- a number that the first n bytes encode is read, and the bytes after them remain
pub number_at-has : (k : Kind) (end : ℕ) (bytes : List ℕ) (number : Number k) (n : ℕ) → HasLeb128 k bytes number n
    → number_at k end bytes ≡ Ok (number, drop n bytes)
number_at-has k end bytes number n h =
    ap (number_at k end) (sym (take-append-drop n bytes))
    ∙ number_at-string k end (take n bytes) (drop n bytes) number h.is_number

-- bytes that are read as the error of a bad number are bad
is_bad : (k : Kind) (end : ℕ) (bytes : List ℕ) → number_at k end bytes ≡ Err (overflow_error k) → IsMalformed k bytes
is_bad k end bytes e = record {
  no_number = λ number n h. let a = number_at-has k end bytes number n h in cc;
  not_cut = λ c. grind (arith, number_at-cut k end bytes c);
}

-- an error in place of a number: an `UnexpectedEof` for cut bytes, or the error of bad ones
abbrev pub IsNumberFault : Kind → ℕ → List ℕ → Error → Type 0
IsNumberFault k end bytes e = (IsTruncated k bytes × (e ≡ eof end)) ⊎ (IsMalformed k bytes × (e ≡ overflow_error k))

-- what is read: a number that bytes at the front encode, or the error in place of one
pub number_outcome : (k : Kind) (end : ℕ) (bytes : List ℕ)
    → HasOutcome (λ x. Found k bytes x.0 x.1) (IsNumberFault k end bytes) (number_at k end bytes)
unfolding number_at
number_outcome k end bytes = go (encoding_at (limit k) bytes) (encoding_split (limit k) bytes) refl
  where
    go : (o : Option (List ℕ × List ℕ))
        → MatchOption o (length bytes < limit k → NoneIsLast bytes) (λ x. IsSplit (limit k) bytes x.0 x.1)
        → number_at k end bytes ≡ number_from k end bytes o
        → HasOutcome (λ x. Found k bytes x.0 x.1) (IsNumberFault k end bytes) (number_from k end bytes o)
    go (Some (front, rest)) s e = outcome-cond (is_in_range k (value k front))
        (λ fits. returned (value k front, rest) (record {
          front = front;
          parts = s.parts;
          string = record { encoding = s.encoding; within = s.short; means = refl; in_range = fits };
        }))
        (λ over. failed (overflow_error k) (inr (is_bad k end bytes (e ∙ rw over refl), refl)))
    go None none e = outcome-cond (ltb (length bytes) (limit k))
        (λ lt. let few = ltb-true (length bytes) (limit k) lt in
        failed (eof end) (inl (record { short = few; unended = none few }, refl)))
        (λ le. failed (overflow_error k) (inr (is_bad k end bytes (e ∙ rw le refl), refl)))

-- a number that is read is encoded by as many bytes as were consumed
pub found_has : {k : Kind} {bytes : List ℕ} {number : Number k} {rest : List ℕ} → (f : Found k bytes number rest)
    → HasLeb128 k bytes number (length f.front)
found_has {k = k} {bytes = bytes} {number = number} {rest = rest} f =
    grind (arith, common_steps, length-append, take-append_seam)

-- fewer bytes remain after a number that is read; `grind` finds the lemma by the call that it states first
pub number_shorter : (k : Kind) (end : ℕ) (bytes : List ℕ) → (number_at k end bytes ≡ number_at k end bytes)
    × IfOk (number_at k end bytes) (λ x. length x.1 < length bytes)
number_shorter k end bytes =
    (refl, grind (arith, common_steps, (number_outcome k end bytes), encoding-nonempty, length-append))

-- bad bytes are read as the error of a bad number
pub number_at-bad : (k : Kind) (end : ℕ) (bytes : List ℕ) → IsMalformed k bytes
    → number_at k end bytes ≡ Err (overflow_error k)
number_at-bad k end bytes b = go (number_outcome k end bytes)
  where
    go : {r : Result (Number k × List ℕ) Error} → HasOutcome (λ x. Found k bytes x.0 x.1) (IsNumberFault k end bytes) r
        → r ≡ Err (overflow_error k)
    go (returned x f) = absurd (b.no_number x.0 (length f.front) (found_has f))
    go (failed e (inl c)) = absurd (b.not_cut c.0)
    go (failed e (inr c)) = ap (λ (x : Error). Err x) c.1

-- ---- what a reader reads, and what the function reads

-- the error that a reader returns in place of a number is what the function reads
pub number_not_read : {k : Kind} {old : Input} {e : Error} {new : Input} → ReadsNoLeb128 k old e new
    → number_at k (end_of old) old.bytes ≡ Err e
number_not_read r = grind (arith, number_at-cut, number_at-bad)

-- the number that a reader reads is what the function reads, and the same bytes remain
pub number_read : {k : Kind} {old : Input} {number : Number k} {new : Input} (end : ℕ)
    → ReadsLeb128 k old number new → number_at k end old.bytes ≡ Ok (number, new.bytes)
number_read {k = k} {old = old} {number = number} end r = grind (arith, number_at-has)

-- reading a number doesn't change the position of the end
pub end_stays : {k : Kind} {old : Input} {number : Number k} {new : Input} → ReadsLeb128 k old number new
    → end_of new ≡ end_of old
end_stays {old = old} r = ap end_of r.left ∙ end_of-after r.len old r.has.enough

-- the function reads what a reader reads
pub ruleset number_steps = (number_read, number_not_read, end_stays)
