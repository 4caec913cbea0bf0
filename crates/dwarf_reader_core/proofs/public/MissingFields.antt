-- Each `UnexpectedEof` is that of the first of consecutive fields that isn't there whole.
use Rattle.dwarf_reader_core.proofs.Common.{◌≡◌, ◌≢◌, ◌∙◌, ℕ, ◌+◌, ◌<◌, ◌≤◌, Bool, true, false, List, [], ◌∷◌, length, Result, Ok, Err, refl, sym, subst, ap, arith, inl, inr, length-drop, eof, Error, Input, after, Takes}
use Rattle.dwarf_base_core.specs.declared.error.Error.TheVariants.{UnexpectedEof}
use Rattle.dwarf_reader_core.specs.Appended.{IsNotEof}
use Rattle.dwarf_reader_core.specs.Faults.{IsCutIn}
use Rattle.dwarf_reader_core.specs.Readings.{AddressSizeRead, Given, NumberRead, Reading, Required, Then}
use Rattle.dwarf_reader_core.proofs.public.Consuming.{after-zero, takes-both}
use Rattle.dwarf_reader_core.specs.InitialLength.{HasNoLength, LengthRead, eight_cut, four_cut, reserved, too_great}

-- ---- errors

-- a value is no error
pub ok-settled : {A : Type 0} {x : A} {e : Error} → ◌≡◌ {A = Result A Error} (Ok x) (Err e) → ⊥
ok-settled same = grind arith

-- errors of equal results are equal
pub err-equal : {A : Type 0} {e f : Error} → ◌≡◌ {A = Result A Error} (Err e) (Err f) → e ≡ f
err-equal same = grind arith

-- the position in an `UnexpectedEof`
abbrev position_in : Error → ℕ
position_in (UnexpectedEof id) = id.0
position_in _ = 0

-- two equal errors have equal positions
pub eof-same : {p q : ℕ} → eof p ≡ eof q → p ≡ q
eof-same same = ap position_in same

-- ---- fields

-- the first field is cut
pub cut_here : (input : Input) (size : ℕ) (sizes : List ℕ) (position : ℕ) → length input.bytes < size
    → position ≡ input.position → IsCutIn input (size ∷ sizes) (eof position)
cut_here input size sizes position short there =
    inl (record { short = short; fault = ap eof there; left = refl })

-- a field is consumed, and a later one is cut
cut_later : (input : Input) (size : ℕ) (sizes : List ℕ) (e : Error) → size ≤ length input.bytes
    → IsCutIn (after size input) sizes e → IsCutIn input (size ∷ sizes) e
cut_later input size sizes e enough cut = inr (after size input, record { enough = enough; left = refl }, cut)

-- the second field is cut
pub cut_second : (input : Input) (one two : ℕ) (sizes : List ℕ) (position : ℕ) → one ≤ length input.bytes
    → length input.bytes < one + two → position ≡ input.position + one
    → IsCutIn input (one ∷ two ∷ sizes) (eof position)
cut_second input one two sizes position enough short there =
    cut_later input one (two ∷ sizes) (eof position) enough
    (cut_here (after one input) two sizes position (omega (arith, length-drop one input.bytes, enough, short)) there)

-- the third field is cut
pub cut_third : (input : Input) (one two three : ℕ) (sizes : List ℕ) (position : ℕ) → one + two ≤ length input.bytes
    → length input.bytes < one + two + three → position ≡ input.position + (one + two)
    → IsCutIn input (one ∷ two ∷ three ∷ sizes) (eof position)
cut_third input one two three sizes position enough short there =
    let long = length-drop one input.bytes in
    cut_later input one (two ∷ three ∷ sizes) (eof position) (omega (arith, enough))
    (cut_second (after one input) two three sizes position (omega (arith, long, enough))
    (omega (arith, long, enough, short)) (omega (arith, there)))

-- ---- readings of consecutive fields

-- a value has n bytes, and bytes that are missing are those of the first of fields of these sizes that isn't there whole
pub record HasSizes {A : Type 0} (sizes : List ℕ) (n : ℕ) (At : Reading A) : Type 0 where
  pub takes : (old new : Input) (x : A) → At old (Ok x, new) → Takes n old new
  pub cut : (old new : Input) (position : ℕ) → At old (Err (eof position), new) → IsCutIn old sizes (eof position)

-- a number of n bytes is one field
pub number-sizes : (n : ℕ) → HasSizes (n ∷ []) n (NumberRead n)
number-sizes n = record {
  takes = λ old new x is. record { enough = is.enough; left = is.left };
  cut = λ old new position short. cut_here old n [] position short.short (eof-same short.fault);
}

-- so is a size of addresses
pub address_size-sizes : HasSizes (1 ∷ []) 1 AddressSizeRead
address_size-sizes = record {
  takes = λ old new x is. record { enough = is.0.enough; left = is.0.left };
  cut = λ old new position is. elim is [
    | inl short ↦ cut_here old 1 [] position short.short (eof-same short.fault)
    | inr other ↦ absurd (grind (arith, other.fault))
  ];
}

-- a result that is given has no field
pub given-sizes : {A : Type 0} (result : Result A Error) → ((position : ℕ) → result ≢ Err (eof position))
    → HasSizes [] 0 (Given result)
given-sizes result settled = record {
  takes = λ old new x is. record { enough = omega arith; left = grind (arith, after-zero) };
  cut = λ old new position is. absurd (settled position (sym (ap (λ r. r.0) is)));
}

-- nor has a value
pub value-sizes : {A : Type 0} (x : A) → HasSizes [] 0 (Given (Ok x))
value-sizes x = given-sizes (Ok x) (λ position. ok-settled)

-- nor a test
pub required-sizes : (holds : Bool) (e : Error) → IsNotEof e → HasSizes [] 0 (Required holds e)
required-sizes true e settled = value-sizes tt
required-sizes false e settled = given-sizes (Err e) (λ position same. settled position (err-equal same))

module _ {A B : Type 0} {At : Reading A} {Next : A → Reading B} {sizes : List ℕ} {n : ℕ} where
  -- the fields after a first one are cut where it ends
  pub field-sizes : {size : ℕ} → HasSizes (size ∷ []) size At → ((x : A) → HasSizes sizes n (Next x))
      → HasSizes (size ∷ sizes) (size + n) (Then At Next)
  field-sizes {size} first others = record {
    takes = λ old new y is. takes-both (first.takes old is.1 is.0 is.2) ((others is.0).takes is.1 new y is.3);
    cut = λ old new position is. elim is [
      | inl is ↦ elim (first.cut old new position is) [ inl short ↦ inl short | inr cut ↦ absurd cut.2 ]
      | inr is ↦ inr (is.1, first.takes old is.1 is.0 is.2, (others is.0).cut is.1 new position is.3)
    ];
  }

  -- the fields after a reading without bytes are those of both
  pub test-sizes : HasSizes [] 0 At → ((x : A) → HasSizes sizes n (Next x)) → HasSizes sizes n (Then At Next)
  test-sizes first others = record {
    takes = λ old new y is.
        let same = (first.takes old is.1 is.0 is.2).left ∙ after-zero old in
        subst (λ (i : Input). Takes n i new) same ((others is.0).takes is.1 new y is.3);
    cut = λ old new position is. elim is [
      | inl is ↦ absurd (first.cut old new position is)
      | inr is ↦
          let same = (first.takes old is.1 is.0 is.2).left ∙ after-zero old in
          subst (λ (i : Input). IsCutIn i sizes (eof position)) same ((others is.0).cut is.1 new position is.3)
    ];
  }

-- ---- initial lengths

-- an initial length, in its first four bytes or in the next eight
length_cut : (greatest : ℕ) (old new : Input) {e : Error} → HasNoLength greatest old e new → (position : ℕ)
    → e ≡ eof position → IsCutIn old (4 ∷ 8 ∷ []) (eof position)
length_cut greatest old new (four_cut short) position same =
    inl (record { short = short.short; fault = sym same ∙ short.fault; left = refl })
length_cut greatest old new (reserved takes high other) position same = absurd (grind arith)
length_cut greatest old new (eight_cut {mid = mid} four short) position same =
    inr (
      mid,
      record { enough = four.enough; left = four.left },
      inl (record { short = short.short; fault = sym same ∙ short.fault; left = refl }),
    )
length_cut greatest old new (too_great four eight over) position same = absurd (grind arith)

-- the bytes of an initial length are cut in one of its fields
pub initial_length_cut : (greatest : ℕ) (old new : Input) (position : ℕ)
    → LengthRead greatest old (Err (eof position), new) → IsCutIn old (4 ∷ 8 ∷ []) (eof position)
initial_length_cut greatest old new position is = length_cut greatest old new is position refl
