-- Each reading has exactly one result, which appended bytes change only where bytes were missing; and so has each
-- reading that is made of others.
use Rattle.std.specs.Prelude.{IfErr, if◌then◌else◌, nat_le, nat_lt, ◌≢◌, ◌↔◌}
use Rattle.dwarf_reader_core.proofs.Common.{Bool, true, ◌≡◌, ◌∙◌, ◌+◌, ℕ, ℤ, ⊤, ◌≤◌, false, List, length, take, Result, Ok, Err, refl, sym, ap, inl, inr, arith, HasNoByte, HasOutcome, IsEncoding, NoneIsLast, IsTooShort, Kind, Number, Outcome, Value, End, Bad, limit, unsigned64, Error, Input, after, eof, eof_here, first, Takes, TakesNumber, TakesString, length-append, take-append-le, drop-append-le}
use Rattle.dwarf_base_core.specs.Number.{signed_number}
use Rattle.dwarf_base_core.specs.declared.common.Format.{Format}
use Rattle.dwarf_base_core.specs.declared.error.Error.TheVariants.{BadUnsignedLeb128, UnsupportedAddressSize, UnsupportedOffset, UnsupportedOffsetSize}
use Rattle.dwarf_reader_core.specs.Appended.{IsNotEof, followed_by}
use Rattle.dwarf_reader_core.specs.Faults.{is_number_size}
use Rattle.dwarf_reader_core.specs.InitialLength.{HasNoLength, LengthRead, eight_cut, four_cut, reserved, too_great}
use Rattle.dwarf_reader_core.specs.Leb128.{ReadsLeb128, overflow_error}
use Rattle.dwarf_reader_core.specs.Readings.{AddressRead, AddressSizeRead, AsOffset, BoundedRead, BytesRead, Choice, EncodingRead, Given, IsDecided, IsRead, Leb128Read, Mapped, NumberRead, OffsetRead, PartRead, Reading, Required, SignedRead, SkipRead, StringRead, Then, Within, WordRead}
use Rattle.dwarf_reader_core.proofs.leb.Outcomes.{encoding-not_none, encoding_or_none, length-same, malformed-long, outcome-exactly_one}
use Rattle.dwarf_reader_core.proofs.public.BadNumbers.{bad_more}
use Rattle.dwarf_reader_core.proofs.public.Consuming.{after-zero, front, front-cut, front-taken, number_more, takes-both, takes-more}
use Rattle.dwarf_reader_core.proofs.public.InitialLengths.{length_more, length_taken, lengths_exactly_one, no_length-more}
use Rattle.dwarf_reader_core.proofs.public.MissingFields.{eof-same, err-equal, ok-settled}
use Rattle.dwarf_reader_core.proofs.public.Once.{one_unless}
use Rattle.dwarf_reader_core.proofs.public.Strings.{string_not_none, string_taken-more, string_taken_once, string_taken_or_none}

-- ---- bytes that are taken

-- no byte is taken where the input remains
none-taken : (old new : Input) → new ≡ old → (n : ℕ) × Takes n old new
none-taken old new same = (0, record { enough = omega arith; left = same ∙ sym (after-zero old) })

-- the bytes of a number are taken
number-taken : {n x : ℕ} {old new : Input} → TakesNumber n old x new → (m : ℕ) × Takes m old new
number-taken {n} takes = (n, record { enough = takes.enough; left = takes.left })

-- and those of two steps
both-taken : {old mid new : Input} → (m : ℕ) × Takes m old mid → (n : ℕ) × Takes n mid new → (k : ℕ) × Takes k old new
both-taken first second = (first.0 + second.0, takes-both first.1 second.1)

-- ---- readings without bytes

-- no byte is read for a result that is given
pub given-is : {A : Type 0} (result : Result A Error) → ((position : ℕ) → result ≡ Err (eof position) → ⊥)
    → IsRead (Given result)
given-is result settled = record {
  decided = record {
    one = λ old. ((result, old), refl, λ other is. is);
    more = λ old new other more is fine. ap (λ r. (r.0, followed_by r.1 more)) is;
    taken = λ old new result is. none-taken old new (ap (λ r. r.1) is);
  };
  missing = λ old new position is. absurd (settled position (sym (ap (λ r. r.0) is)));
}

-- nor for a value
pub value-is : {A : Type 0} (x : A) → IsRead (Given (Ok x))
value-is x = given-is (Ok x) (λ position. ok-settled)

-- nor for a test
pub required-is : (holds : Bool) (e : Error) → ((position : ℕ) → e ≢ eof position) → IsRead (Required holds e)
required-is true e settled = value-is tt
required-is false e settled = given-is (Err e) (λ position same. settled position (err-equal same))

-- one of two readings is a reading
pub choice-is : {A : Type 0} {One Other : Reading A} (holds : Bool) → IsRead One → IsRead Other
    → IsRead (Choice holds One Other)
choice-is true one other = one
choice-is false one other = other

-- ---- what is read, step by step

-- a test that holds is passed
pub required-ok : {holds : Bool} {old : Input} (e : Error) → holds ≡ true → Required holds e old (Ok tt, old)
required-ok e passes = rw passes refl

-- one that doesn't is the error
pub required-err : {holds : Bool} {e : Error} {old : Input} → holds ≡ false → Required holds e old (Err e, old)
required-err fails = rw fails refl

-- ---- readings made of others

module _ {A B : Type 0} (f : A → B) where
  -- the result of a function of a reading's value
  abbrev mapped_result : Result A Error × Input → Result B Error × Input
  mapped_result (Ok x, new) = (Ok (f x), new)
  mapped_result (Err e, new) = (Err e, new)

  module _ {At : Reading A} (read : IsDecided At) where
    -- it is a result
    mapped-some : (old : Input) (r : Result A Error × Input) → At old r → Mapped f At old (mapped_result r)
    mapped-some old (Ok x, new) is = (x, refl, is)
    mapped-some old (Err e, new) is = is

    -- and no other is
    mapped-only : (old : Input) (r : Result A Error × Input)
        → ((other : Result A Error × Input) → At old other → other ≡ r) → (other : Result B Error × Input)
        → Mapped f At old other → other ≡ mapped_result r
    mapped-only old r only (Ok y, new) is =
        ap (λ (z : B). let s : Result B Error × Input = (Ok z, new) in s) is.1
        ∙ ap mapped_result (only (Ok is.0, new) is.2)
    mapped-only old r only (Err e, new) is = ap mapped_result (only (Err e, new) is)

    -- appended bytes change it where they change the reading
    mapped-more : (old new : Input) (result : Result B Error) (more : List ℕ) → Mapped f At old (result, new)
        → IfErr result IsNotEof → Mapped f At (followed_by old more) (result, followed_by new more)
    mapped-more old new (Ok y) more is settled =
        (is.0, is.1, read.more old new (Ok is.0) more is.2 tt)
    mapped-more old new (Err e) more is settled = read.more old new (Err e) more is settled

    -- it takes the bytes of the reading
    mapped-taken : (old new : Input) (result : Result B Error) → Mapped f At old (result, new)
        → (n : ℕ) × Takes n old new
    mapped-taken old new (Ok y) is = read.taken old new (Ok is.0) is.2
    mapped-taken old new (Err e) is = read.taken old new (Err e) is

-- a function of a reading's value is a reading
pub mapped-is : {A B : Type 0} {f : A → B} {At : Reading A} → IsRead At → IsRead (Mapped f At)
mapped-is {f = f} read = record {
  decided = record {
    one = λ old. let one = read.decided.one old in (
      mapped_result f one.0,
      mapped-some f read.decided old one.0 one.1,
      mapped-only f read.decided old one.0 one.2,
    );
    more = mapped-more f read.decided;
    taken = mapped-taken f read.decided;
  };
  missing = λ old new position is. read.missing old new position is;
}

module _ {A B : Type 0} {At : Reading A} {Next : A → Reading B} (first_read : IsDecided At)
    (next_read : (x : A) → IsDecided (Next x)) where
  -- the result of the second reading, or the error of the first
  abbrev then_result : Result A Error × Input → Result B Error × Input
  then_result (Ok x, mid) = ((next_read x).one mid).0
  then_result (Err e, new) = (Err e, new)

  -- the second result is the result after the first value
  second-some : (old : Input) (x : A) (mid : Input) → At old (Ok x, mid) → (r : Result B Error × Input) → Next x mid r
      → Then At Next old r
  second-some old x mid at (Ok y, new) is = (x, mid, at, is)
  second-some old x mid at (Err e, new) is = inr (x, mid, at, is)

  -- it is a result
  then-some : (old : Input) (r : Result A Error × Input) → At old r → Then At Next old (then_result r)
  then-some old (Ok x, mid) is =
      let one = (next_read x).one mid in
      second-some old x mid is one.0 one.1
  then-some old (Err e, new) is = inl is

  -- and no other is
  then-only : (old : Input) (r : Result A Error × Input)
      → ((other : Result A Error × Input) → At old other → other ≡ r) → (other : Result B Error × Input)
      → Then At Next old other → other ≡ then_result r
  then-only old r only (Ok y, new) is =
      ((next_read is.0).one is.1).2 (Ok y, new) is.3 ∙ ap then_result (only (Ok is.0, is.1) is.2)
  then-only old r only (Err e, new) (inl is) = ap then_result (only (Err e, new) is)
  then-only old r only (Err e, new) (inr is) =
      ((next_read is.0).one is.1).2 (Err e, new) is.3 ∙ ap then_result (only (Ok is.0, is.1) is.2)

  -- appended bytes change it where they change either
  then-more : (old new : Input) (result : Result B Error) (more : List ℕ) → Then At Next old (result, new)
      → IfErr result IsNotEof → Then At Next (followed_by old more) (result, followed_by new more)
  then-more old new (Ok y) more is settled = (
    is.0,
    followed_by is.1 more,
    first_read.more old is.1 (Ok is.0) more is.2 tt,
    (next_read is.0).more is.1 new (Ok y) more is.3 settled,
  )
  then-more old new (Err e) more (inl is) settled =
      inl (first_read.more old new (Err e) more is settled)
  then-more old new (Err e) more (inr is) settled =
      inr (
        is.0,
        followed_by is.1 more,
        first_read.more old is.1 (Ok is.0) more is.2 tt,
        (next_read is.0).more is.1 new (Err e) more is.3 settled,
      )

  -- the bytes of both are taken
  then-taken : (old new : Input) (result : Result B Error) → Then At Next old (result, new) → (n : ℕ) × Takes n old new
  then-taken old new (Ok y) is =
      both-taken (first_read.taken old is.1 (Ok is.0) is.2) ((next_read is.0).taken is.1 new (Ok y) is.3)
  then-taken old new (Err e) (inl is) = first_read.taken old new (Err e) is
  then-taken old new (Err e) (inr is) =
      both-taken (first_read.taken old is.1 (Ok is.0) is.2) ((next_read is.0).taken is.1 new (Err e) is.3)

  -- the next bytes decide two consecutive readings if they decide each
  pub then-decided : IsDecided (Then At Next)
  then-decided = record {
    one = λ old. let one = first_read.one old in
        (then_result one.0, then-some old one.0 one.1, then-only old one.0 one.2);
    more = then-more;
    taken = then-taken;
  }

module _ {A B : Type 0} {At : Reading A} {Next : A → Reading B} (first_read : IsRead At)
    (next_read : (x : A) → IsRead (Next x)) where
  -- where bytes are missing for either, both stop
  then-missing : (old new : Input) (position : ℕ) → Then At Next old (Err (eof position), new)
      → position ≡ new.position
  then-missing old new position (inl is) = first_read.missing old new position is
  then-missing old new position (inr is) = (next_read is.0).missing is.1 new position is.3

  -- two consecutive readings are a reading
  pub then-is : IsRead (Then At Next)
  then-is = record {
    decided = then-decided first_read.decided (λ x. (next_read x).decided);
    missing = then-missing;
  }

module _ {A : Type 0} (part : Input) {At : Reading A} (read : IsDecided At) where
  -- the result of a part, where another input remains
  abbrev within_result : Input → Result A Error × Input → Result (A × Input) Error × Input
  within_result old (Ok x, left) = (Ok (x, left), old)
  within_result old (Err e, left) = (Err e, old)

  -- it is a result
  within-some : (old : Input) (r : Result A Error × Input) → At part r → Within part At old (within_result old r)
  within-some old (Ok x, left) is = (is, refl)
  within-some old (Err e, left) is = (left, is, refl)

  -- and no other is
  within-only : (old : Input) (r : Result A Error × Input)
      → ((other : Result A Error × Input) → At part other → other ≡ r) → (other : Result (A × Input) Error × Input)
      → Within part At old other → other ≡ within_result old r
  within-only old r only (Ok x, new) is =
      (λ i. (Ok x, is.1 i)) ∙ ap (within_result old) (only (Ok x.0, x.1) is.0)
  within-only old r only (Err e, new) is = (λ i. (Err e, is.2 i)) ∙ ap (within_result old) (only (Err e, is.0) is.1)

  -- bytes that are appended to the others don't change it
  within-more : (old new : Input) (result : Result (A × Input) Error) (more : List ℕ)
      → Within part At old (result, new) → IfErr result IsNotEof
      → Within part At (followed_by old more) (result, followed_by new more)
  within-more old new (Ok x) more is settled = (is.0, ap (λ i. followed_by i more) is.1)
  within-more old new (Err e) more is settled = (is.0, is.1, ap (λ i. followed_by i more) is.2)

  -- none of the others is taken
  within-taken : (old new : Input) (result : Result (A × Input) Error) → Within part At old (result, new)
      → (n : ℕ) × Takes n old new
  within-taken old new (Ok x) is = none-taken old new is.1
  within-taken old new (Err e) is = none-taken old new is.2

  -- the bytes of a part decide what is read of it
  pub within-decided : IsDecided (Within part At)
  within-decided = record {
    one = λ old. let one = read.one part in
        (within_result old one.0, within-some old one.0 one.1, within-only old one.0 one.2);
    more = within-more;
    taken = within-taken;
  }

-- ---- readings with the results of others

-- a reading with the results of another one is a reading, too
pub same-is : {A : Type 0} {At Bt : Reading A} → ((old : Input) (r : Result A Error × Input) → At old r → Bt old r)
    → ((old : Input) (r : Result A Error × Input) → Bt old r → At old r) → IsRead At → IsRead Bt
same-is to from read = record {
  decided = record {
    one = λ old. let one = read.decided.one old in
        (one.0, to old one.0 one.1, λ other is. one.2 other (from old other is));
    more = λ old new result more is settled.
        to (followed_by old more) (result, followed_by new more)
        (read.decided.more old new result more (from old (result, new) is) settled);
    taken = λ old new result is. read.decided.taken old new result (from old (result, new) is);
  };
  missing = λ old new position is. read.missing old new position (from old (Err (eof position), new) is);
}

-- a value if a test holds, and else an error, for which no byte is read
abbrev pub CheckedRead : {A : Type 0} → Bool → A → Error → Reading A
CheckedRead holds x e = Given (if holds then Ok x else Err e)

-- that is a reading, if the error isn't that of missing bytes
pub checked-is : {A : Type 0} (holds : Bool) (x : A) (e : Error) → ((position : ℕ) → e ≢ eof position)
    → IsRead (CheckedRead holds x e)
checked-is true x e settled = value-is x
checked-is false x e settled = given-is (Err e) (λ position same. settled position (err-equal same))

module _ (greatest : ℕ) {At : Reading ℕ} (number : IsRead At) where
  -- a number that is checked to be an offset
  abbrev CheckedOffset : Reading ℕ
  CheckedOffset = Then At (λ x. CheckedRead (nat_le x greatest) x UnsupportedOffset)

  -- what it reads is a number that has to be an offset
  as_offset-to : (old : Input) (r : Result ℕ Error × Input) → CheckedOffset old r → AsOffset greatest At old r
  as_offset-to old (Ok x, new) is = grind arith
  as_offset-to old (Err e, new) is = grind arith

  -- and a number that has to be an offset is what it reads
  as_offset-from : (old : Input) (r : Result ℕ Error × Input) → AsOffset greatest At old r → CheckedOffset old r
  as_offset-from old (Ok x, new) is = grind arith
  as_offset-from old (Err e, new) is = grind arith

  -- a number that has to be an offset is a reading
  pub as_offset-is : IsRead (AsOffset greatest At)
  as_offset-is =
      same-is as_offset-to as_offset-from
      (then-is number (λ x. checked-is _ x UnsupportedOffset (λ position same. grind arith)))

-- ---- bytes and numbers

-- bytes that are missing are missing where the input remains
short-missing : (n : ℕ) (old new : Input) (position : ℕ) → IsTooShort n old (eof position) new
    → position ≡ new.position
short-missing n old new position short = eof-same short.fault ∙ ap (λ (i : Input). i.position) (sym short.left)

-- bytes that are missing leave a result open
short-open : {n : ℕ} {old new : Input} {e : Error} → IsTooShort n old e new → IsNotEof e → ⊥
short-open {old = old} short settled = settled old.position short.fault

-- its bytes are taken
part-taken : (n : ℕ) (old new : Input) (result : Result Input Error) → PartRead n old (result, new)
    → (m : ℕ) × Takes m old new
part-taken n old new (Ok part) is = (n, is.1)
part-taken n old new (Err e) short = none-taken old new short.left

-- appended bytes change it only where bytes were missing
part-more : (n : ℕ) (old new : Input) (result : Result Input Error) (more : List ℕ) → PartRead n old (result, new)
    → IfErr result IsNotEof → PartRead n (followed_by old more) (result, followed_by new more)
part-more n old new (Ok part) more is settled = (grind (arith, is.0, is.1, take-append-le), takes-more more is.1)
part-more n old new (Err e) more is settled = absurd (short-open is settled)

-- so is a part of n bytes
pub part-is : (n : ℕ) → IsRead (PartRead n)
part-is n = record {
  decided = record {
    one = λ old. one_unless (length old.bytes) n (Err (eof_here old), old) (front-cut n old)
        (λ short other is. grind arith)
        (λ enough. (
          (Ok (first n old), after n old),
          (refl, record { enough = enough; left = refl }),
          λ other is. grind arith,
        ));
    more = part-more n;
    taken = part-taken n;
  };
  missing = short-missing n;
}

module _ (n : ℕ) where
  -- the bytes of a part
  bytes-to : (old : Input) (r : Result (List ℕ) Error × Input) → Mapped (λ (part : Input). part.bytes) (PartRead n) old r
      → BytesRead n old r
  bytes-to old (Ok bytes, new) is = (is.1 ∙ ap (λ (part : Input). part.bytes) is.2.0, is.2.1)
  bytes-to old (Err e, new) is = is

  -- and bytes that are copied are what it reads
  bytes-from : (old : Input) (r : Result (List ℕ) Error × Input) → BytesRead n old r
      → Mapped (λ (part : Input). part.bytes) (PartRead n) old r
  bytes-from old (Ok bytes, new) is = (first n old, is.0, (refl, is.1))
  bytes-from old (Err e, new) is = is

  -- n bytes that are copied are a reading
  pub bytes-is : IsRead (BytesRead n)
  bytes-is = same-is bytes-to bytes-from (mapped-is (part-is n))

-- its bytes are taken
number_read-taken : (n : ℕ) (old new : Input) (result : Result ℕ Error) → NumberRead n old (result, new)
    → (m : ℕ) × Takes m old new
number_read-taken n old new (Ok x) takes = number-taken takes
number_read-taken n old new (Err e) short = none-taken old new short.left

-- appended bytes change it only where bytes were missing
number-more : (n : ℕ) (old new : Input) (result : Result ℕ Error) (more : List ℕ) → NumberRead n old (result, new)
    → IfErr result IsNotEof → NumberRead n (followed_by old more) (result, followed_by new more)
number-more n old new (Ok x) more is settled = number_more more is
number-more n old new (Err e) more is settled = absurd (short-open is settled)

-- so is a number of n bytes
pub number-is : (n : ℕ) → IsRead (NumberRead n)
number-is n = record {
  decided = record {
    one = λ old. one_unless (length old.bytes) n (Err (eof_here old), old) (front-cut n old)
        (λ short other is. grind arith)
        (λ enough. ((Ok (front n old), after n old), front-taken n old enough, λ other is. grind arith));
    more = number-more n;
    taken = number_read-taken n;
  };
  missing = short-missing n;
}

module _ (n : ℕ) where
  -- the bytes of a number, which are skipped
  skip-to : (old : Input) (r : Result ⊤ Error × Input) → Mapped (λ x. tt) (NumberRead n) old r → SkipRead n old r
  skip-to old (Ok done, new) is = record { enough = is.2.enough; left = is.2.left }
  skip-to old (Err e, new) is = is

  -- and bytes that are skipped is what it reads
  skip-from : (old : Input) (r : Result ⊤ Error × Input) → SkipRead n old r → Mapped (λ x. tt) (NumberRead n) old r
  skip-from old (Ok done, new) is = (front n old, refl, record { enough = is.enough; encoded = refl; left = is.left })
  skip-from old (Err e, new) is = is

  -- n bytes that are skipped are a reading
  pub skip-is : IsRead (SkipRead n)
  skip-is = same-is skip-to skip-from (mapped-is (number-is n))

  -- the signed number that n bytes are
  signed-to : (old : Input) (r : Result ℤ Error × Input) → Mapped (signed_number n) (NumberRead n) old r
      → SignedRead n old r
  signed-to old (Ok x, new) is = record { number = is.0; taken = is.2; signed = is.1 }
  signed-to old (Err e, new) is = is

  -- and a signed number is what it reads
  signed-from : (old : Input) (r : Result ℤ Error × Input) → SignedRead n old r
      → Mapped (signed_number n) (NumberRead n) old r
  signed-from old (Ok x, new) is = (is.number, is.signed, is.taken)
  signed-from old (Err e, new) is = is

  -- a signed number of n bytes is a reading
  pub signed-is : IsRead (SignedRead n)
  signed-is = same-is signed-to signed-from (mapped-is (number-is n))

-- ---- offsets and addresses

module _ (greatest n : ℕ) where
  -- a number that is checked to be an offset
  abbrev CheckedWordRead : Reading ℕ
  CheckedWordRead = Then (NumberRead n) (λ x. CheckedRead (nat_le x greatest) x UnsupportedOffset)

  -- what it reads is a word that has to be an offset
  word-to : (old : Input) (r : Result ℕ Error × Input) → CheckedWordRead old r → WordRead greatest n old r
  word-to old (Ok x, new) is = grind arith
  word-to old (Err e, new) is = grind arith

  -- and a word that has to be an offset is what it reads
  word-from : (old : Input) (r : Result ℕ Error × Input) → WordRead greatest n old r → CheckedWordRead old r
  word-from old (Ok x, new) is = grind arith
  word-from old (Err e, new) is = grind arith

  -- a word that has to be an offset is a reading
  pub word-is : IsRead (WordRead greatest n)
  word-is =
      same-is word-to word-from
      (then-is (number-is n) (λ x. checked-is _ x UnsupportedOffset (λ position same. grind arith)))

-- a number of n bytes that has to be an offset is a word
pub words : (greatest n : ℕ) (old new : Input) (result : Result ℕ Error)
    → AsOffset greatest (NumberRead n) old (result, new) ↔ WordRead greatest n old (result, new)
words greatest n old new (Ok x) = (λ is. is, λ is. is)
words greatest n old new (Err e) = (λ is. grind arith, λ is. grind arith)

module _ (size : ℕ) where
  -- a number of a size that is checked
  abbrev CheckedAddressRead : Reading ℕ
  CheckedAddressRead =
      Then (CheckedRead (is_number_size size) size (UnsupportedAddressSize size)) (λ checked. NumberRead size)

  -- what it reads is an address
  address-to : (old : Input) (r : Result ℕ Error × Input) → CheckedAddressRead old r → AddressRead size old r
  address-to old (Ok x, new) is = grind arith
  address-to old (Err e, new) is = grind arith

  -- and an address is what it reads
  address-from : (old : Input) (r : Result ℕ Error × Input) → AddressRead size old r → CheckedAddressRead old r
  address-from old (Ok x, new) is = (size, old, rw is.1 refl, is.0)
  address-from old (Err e, new) (inl none) = inl (rw (none.none, none.fault, none.left) refl)
  address-from old (Err e, new) (inr is) = inr (size, old, rw is.0 refl, is.1)

  -- an address is a reading
  pub address-is : IsRead (AddressRead size)
  address-is =
      same-is address-to address-from
      (then-is (checked-is _ size (UnsupportedAddressSize size) (λ position same. grind arith)) (λ checked. number-is size))

module _ (greatest size : ℕ) where
  -- a word of a size that is checked
  abbrev CheckedOffsetRead : Reading ℕ
  CheckedOffsetRead =
      Then (CheckedRead (is_number_size size) size (UnsupportedOffsetSize size)) (λ checked. WordRead greatest size)

  -- what it reads is an offset of a size
  offset-to : (old : Input) (r : Result ℕ Error × Input) → CheckedOffsetRead old r → OffsetRead greatest size old r
  offset-to old (Ok x, new) is = grind arith
  offset-to old (Err e, new) is = grind arith

  -- and an offset of a size is what it reads
  offset-from : (old : Input) (r : Result ℕ Error × Input) → OffsetRead greatest size old r → CheckedOffsetRead old r
  offset-from old (Ok x, new) is = (size, old, rw is.1 refl, (is.0, is.2))
  offset-from old (Err e, new) (inl none) = inl (rw (none.none, none.fault, none.left) refl)
  offset-from old (Err e, new) (inr is) = inr (size, old, rw is.0 refl, is.1)

  -- an offset of a size is a reading
  pub offset-is : IsRead (OffsetRead greatest size)
  offset-is =
      same-is offset-to offset-from
      (then-is (checked-is _ size (UnsupportedOffsetSize size) (λ position same. grind arith))
      (λ checked. word-is greatest size))

-- a byte that is checked to be a size of addresses
abbrev CheckedSizeRead : Reading ℕ
CheckedSizeRead = Then (NumberRead 1) (λ x. CheckedRead (is_number_size x) x (UnsupportedAddressSize x))

-- what it reads is a size of addresses
size-to : (old : Input) (r : Result ℕ Error × Input) → CheckedSizeRead old r → AddressSizeRead old r
size-to old (Ok x, new) is = grind arith
size-to old (Err e, new) is = grind arith

-- and a size of addresses is what it reads
size-from : (old : Input) (r : Result ℕ Error × Input) → AddressSizeRead old r → CheckedSizeRead old r
size-from old (Ok x, new) is = grind arith
size-from old (Err e, new) is = grind arith

-- a size of addresses is a reading
pub address_size-is : IsRead AddressSizeRead
address_size-is =
    same-is size-to size-from
    (then-is (number-is 1) (λ x. checked-is _ x (UnsupportedAddressSize x) (λ position same. grind arith)))

-- ---- strings

-- a string is the only result of its bytes
string-only : (old s x : Input) → TakesString old s x → (other : Result Input Error × Input) → StringRead old other
    → other ≡ (Ok s, x)
string-only old s x taken (Ok t, y) is = let same = string_taken_once old t s y x is taken in λ i. (Ok (same.0 i), same.1 i)
string-only old s x taken (Err e, y) is = absurd (string_not_none old s x e taken is.0)

-- so is the error where there is no zero byte
string-none_only : (old : Input) (e : Error) → HasNoByte 0 old e → (other : Result Input Error × Input)
    → StringRead old other → other ≡ (Err e, old)
string-none_only old e none (Ok t, y) is = absurd (string_not_none old t y e is none)
string-none_only old e none (Err f, y) is = grind arith

-- appended bytes change a string only where its zero byte was missing
string-more : (old new : Input) (result : Result Input Error) (more : List ℕ) → StringRead old (result, new)
    → IfErr result IsNotEof → StringRead (followed_by old more) (result, followed_by new more)
string-more old new (Ok string) more is settled = string_taken-more more is
string-more old new (Err e) more is settled = absurd (settled old.position is.0.fault)

-- a string is taken with its zero byte
string-taken : (old new : Input) (result : Result Input Error) → StringRead old (result, new)
    → (n : ℕ) × Takes n old new
string-taken old new (Ok string) is = (is.len + 1, record { enough = omega (arith, is.ends.within); left = is.left })
string-taken old new (Err e) is = none-taken old new is.1

-- a string is a reading
pub string-is : IsRead StringRead
string-is = record {
  decided = record {
    one = λ old. elim (string_taken_or_none old) [
      | inl found ↦ ((Ok found.0, found.1), found.2, string-only old found.0 found.1 found.2)
      | inr none ↦ ((Err none.0, old), (none.1, refl), string-none_only old none.0 none.1)
    ];
    more = string-more;
    taken = string-taken;
  };
  missing = λ old new position is. eof-same is.0.fault ∙ ap (λ (i : Input). i.position) (sym is.1);
}

-- ---- LEB128 numbers

module _ (k : Kind) where
  module _ (old : Input) where
    -- the outcome of bytes as a result, and what remains
    abbrev leb_result : Outcome k → Result (Number k) Error × Input
    leb_result (Value x n) = (Ok x, after n old)
    leb_result End = (Err (eof_here (after (length old.bytes) old)), after (length old.bytes) old)
    leb_result Bad = (Err (overflow_error k), after (limit k) old)

    -- it is a result
    leb-some : (o : Outcome k) → HasOutcome k old.bytes o → Leb128Read k old (leb_result o)
    leb-some (Value x n) is = record { len = n; has = is; left = refl }
    leb-some End is = inl (record { cut = is; left = refl; fault = refl })
    leb-some Bad is = inr (record { bad = is; left = refl; fault = refl })

    -- and no other is
    leb-only : (o : Outcome k) → ((other : Outcome k) → HasOutcome k old.bytes other → other ≡ o)
        → (other : Result (Number k) Error × Input) → Leb128Read k old other → other ≡ leb_result o
    leb-only o only (Ok x, new) is =
        let left = is.left in
        ap (λ (i : Input). let r : Result (Number k) Error × Input = (Ok x, i) in r) left
        ∙ ap leb_result (only (Value x is.len) is.has)
    leb-only o only (Err e, new) (inl is) =
        let same : ◌≡◌ {A = Result (Number k) Error × Input} (Err e, new) (leb_result End) = rw (is.fault, is.left) refl
        in same ∙ ap leb_result (only End is.cut)
    leb-only o only (Err e, new) (inr is) =
        let same : ◌≡◌ {A = Result (Number k) Error × Input} (Err e, new) (leb_result Bad) = rw (is.fault, is.left) refl
        in same ∙ ap leb_result (only Bad is.bad)

  -- a number is read with more bytes appended, too
  leb_number-more : (old new : Input) (x : Number k) (more : List ℕ) → ReadsLeb128 k old x new
      → ReadsLeb128 k (followed_by old more) x (followed_by new more)
  leb_number-more old new x more is = record {
    len = is.len;
    has = record {
      enough = omega (arith, is.has.enough, length-append old.bytes more);
      is_number = rw (take-append-le is.len old.bytes more is.has.enough) is.has.is_number;
    };
    left = grind (arith, is.left, is.has.enough, drop-append-le);
  }

  -- appended bytes change a number only where its last byte was missing
  leb-more : (old new : Input) (result : Result (Number k) Error) (more : List ℕ) → Leb128Read k old (result, new)
      → IfErr result IsNotEof → Leb128Read k (followed_by old more) (result, followed_by new more)
  leb-more old new (Ok x) more is settled = leb_number-more old new x more is
  leb-more old new (Err e) more (inl cut) settled = absurd (settled new.position cut.fault)
  leb-more old new (Err e) more (inr is) settled =
      let long = malformed-long k old.bytes is.bad in
      inr (record {
        bad = bad_more k old.bytes more is.bad;
        left = grind (arith, is.left, long, drop-append-le);
        fault = is.fault;
      })

  -- a number whose last byte is missing stops there
  leb-missing : (old new : Input) (position : ℕ) → Leb128Read k old (Err (eof position), new) → position ≡ new.position
  leb-missing old new position (inl cut) = eof-same cut.fault
  leb-missing old new position (inr is) = let fault = is.fault in absurd (grind arith)

  -- its bytes are taken; all of them, if its last byte is missing; and of a bad number, as many as the limit
  leb-taken : (old new : Input) (result : Result (Number k) Error) → Leb128Read k old (result, new)
      → (n : ℕ) × Takes n old new
  leb-taken old new (Ok x) is = (is.len, record { enough = is.has.enough; left = is.left })
  leb-taken old new (Err e) (inl cut) = (length old.bytes, record { enough = omega arith; left = cut.left })
  leb-taken old new (Err e) (inr is) =
      (limit k, record { enough = malformed-long k old.bytes is.bad; left = is.left })

  -- a LEB128 number is a reading
  pub leb128-is : IsRead (Leb128Read k)
  leb128-is = record {
    decided = record {
      one = λ old. let one = outcome-exactly_one k old.bytes in
          (leb_result old one.0, leb-some old one.0 one.1, leb-only old one.0 one.2);
      more = leb-more;
      taken = leb-taken;
    };
    missing = leb-missing;
  }

module _ (bound : ℕ) where
  -- a number that is checked to be below the bound
  abbrev CheckedNumberRead : Reading ℕ
  CheckedNumberRead = Then (Leb128Read unsigned64) (λ x. CheckedRead (nat_lt x bound) x BadUnsignedLeb128)

  -- what it reads is a bounded number
  bounded-to : (old : Input) (r : Result ℕ Error × Input) → CheckedNumberRead old r → BoundedRead bound old r
  bounded-to old (Ok x, new) is = grind arith
  bounded-to old (Err e, new) is = grind arith

  -- and a bounded number is what it reads
  bounded-from : (old : Input) (r : Result ℕ Error × Input) → BoundedRead bound old r → CheckedNumberRead old r
  bounded-from old (Ok x, new) is = grind arith
  bounded-from old (Err e, new) is = grind arith

  -- a bounded number is a reading
  pub bounded-is : IsRead (BoundedRead bound)
  bounded-is =
      same-is bounded-to bounded-from
      (then-is (leb128-is unsigned64) (λ x. checked-is _ x BadUnsignedLeb128 (λ position same. grind arith)))

-- appended bytes change an encoding only where its last byte was missing
encoding-more : (old new : Input) (result : Result ⊤ Error) (more : List ℕ) → EncodingRead old (result, new)
    → IfErr result IsNotEof → EncodingRead (followed_by old more) (result, followed_by new more)
encoding-more old new (Ok done) more is settled = record {
  len = is.len;
  enough = omega (arith, is.enough, length-append old.bytes more);
  encoding = rw (take-append-le is.len old.bytes more is.enough) is.encoding;
  left = grind (arith, is.left, is.enough, drop-append-le);
}
encoding-more old new (Err e) more is settled = absurd (settled new.position is.fault)

-- an encoding that is skipped is the only result
encoding-only : (old : Input) (n : ℕ) → n ≤ length old.bytes → IsEncoding (take n old.bytes)
    → (other : Result ⊤ Error × Input) → EncodingRead old other → other ≡ (Ok tt, after n old)
encoding-only old n enough encoding (Ok done, new) is =
    let same = length-same old.bytes is.len n is.enough enough is.encoding encoding in
    λ i. (Ok tt, (is.left ∙ ap (λ m. after m old) same) i)
encoding-only old n enough encoding (Err e, new) is =
    absurd (encoding-not_none old.bytes n enough encoding is.none)

-- so is the error where none is
encoding-none : (old : Input) → NoneIsLast old.bytes → (other : Result ⊤ Error × Input) → EncodingRead old other
    → other ≡ (Err (eof_here (after (length old.bytes) old)), after (length old.bytes) old)
encoding-none old none (Ok done, new) is = absurd (encoding-not_none old.bytes is.len is.enough is.encoding none)
encoding-none old none (Err e, new) is = rw (is.fault, is.left) refl

-- its bytes are taken, or all of them
encoding-taken : (old new : Input) (result : Result ⊤ Error) → EncodingRead old (result, new)
    → (n : ℕ) × Takes n old new
encoding-taken old new (Ok done) is = (is.len, record { enough = is.enough; left = is.left })
encoding-taken old new (Err e) is = (length old.bytes, record { enough = omega arith; left = is.left })

-- an encoding that is skipped is a reading
pub encoding-is : IsRead EncodingRead
encoding-is = record {
  decided = record {
    one = λ old. elim (encoding_or_none old.bytes) [
      | inl found ↦ (
        (Ok tt, after found.0 old),
        record { len = found.0; enough = found.1; encoding = found.2; left = refl },
        encoding-only old found.0 found.1 found.2,
      )
      | inr none ↦ (
        (Err (eof_here (after (length old.bytes) old)), after (length old.bytes) old),
        record { none = none; left = refl; fault = refl },
        encoding-none old none,
      )
    ];
    more = encoding-more;
    taken = encoding-taken;
  };
  missing = λ old new position is. eof-same is.fault;
}

-- ---- initial lengths

-- appended bytes change an initial length only where bytes were missing
length_at-more : (greatest : ℕ) (old new : Input) (result : Result (Format × ℕ) Error) (more : List ℕ)
    → LengthRead greatest old (result, new) → IfErr result IsNotEof
    → LengthRead greatest (followed_by old more) (result, followed_by new more)
length_at-more greatest old new (Ok x) more is settled = length_more more is
length_at-more greatest old new (Err e) more is settled = no_length-more more is settled

-- an initial length whose bytes are missing stops there
length_at-missing : (greatest : ℕ) (old new : Input) {e : Error} (position : ℕ) → HasNoLength greatest old e new
    → e ≡ eof position → position ≡ new.position
length_at-missing greatest old new position (four_cut short) same =
    short-missing 4 old new position (rw same at short)
length_at-missing greatest old new position (reserved takes high other) same = absurd (grind arith)
length_at-missing greatest old new position (eight_cut {mid = mid} four short) same =
    short-missing 8 mid new position (rw same at short)
length_at-missing greatest old new position (too_great four eight over) same = absurd (grind arith)

-- its bytes are taken, or those of a first part that can't begin one
no_length-taken : {greatest : ℕ} {old new : Input} {e : Error} → HasNoLength greatest old e new
    → (n : ℕ) × Takes n old new
no_length-taken {old = old} {new} (four_cut short) = none-taken old new short.left
no_length-taken (reserved takes high other) = number-taken takes
no_length-taken {new = new} (eight_cut {mid = mid} four short) =
    both-taken (number-taken four) (none-taken mid new short.left)
no_length-taken (too_great four eight over) = both-taken (number-taken four) (number-taken eight)

-- an initial length, or the error in place of one, takes some of the bytes
length_at-taken : (greatest : ℕ) (old new : Input) (result : Result (Format × ℕ) Error)
    → LengthRead greatest old (result, new) → (n : ℕ) × Takes n old new
length_at-taken greatest old new (Ok x) is = (_, length_taken is)
length_at-taken greatest old new (Err e) is = no_length-taken is

-- an initial length is a reading
pub initial_length-is : (greatest : ℕ) → IsRead (LengthRead greatest)
initial_length-is greatest = record {
  decided = record {
    one = lengths_exactly_one greatest;
    more = length_at-more greatest;
    taken = length_at-taken greatest;
  };
  missing = λ old new position is. length_at-missing greatest old new position is refl;
}

-- what each call reads
pub ruleset readings = (skip-is, part-is, bytes-is, number-is, signed-is, word-is, address-is, offset-is, address_size-is, string-is, leb128-is, bounded-is, encoding-is, initial_length-is)
