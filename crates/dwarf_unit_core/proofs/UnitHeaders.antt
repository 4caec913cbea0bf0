-- The header of a unit is a reading of as many bytes as its fields have.
use Rattle.std.proofs.Common.{◌≡◌, ◌≤◌, ℕ, ◌+◌, ap, arith, inr, Bool, true, false, refl, subst, sym, Result, Ok, Err, ne_eqb}
use Rattle.std.specs.Prelude.{◌==◌, ◌&&◌, if◌then◌else◌, nat_le}
use Rattle.std.proofs.lemmas.Bool.{le-leb}
use Rattle.dwarf_read_core.specs.declared.Error.{Error}
use Rattle.dwarf_read_core.specs.declared.Error.TheVariants.{UnknownUnitType, UnknownVersion}
use Rattle.dwarf_read_core.specs.declared.Format.{Format}
use Rattle.dwarf_read_core.specs.declared.Format.TheVariants.{Dwarf32, Dwarf64}
use Rattle.dwarf_read_core.specs.Format.{word_size}
use Rattle.dwarf_read_core.specs.Headers.{IsHeader}
use Rattle.dwarf_read_core.specs.Input.{Input, Takes, TakesNumber}
use Rattle.dwarf_read_core.specs.Readings.{Choice, Given, IsRead, Mapped, NumberRead, Reading, Reads}
use Rattle.dwarf_read_core.proofs.public.Consuming.{after-zero, takes-both}
use Rattle.dwarf_read_core.proofs.public.Readings.{address_size-is, choice-is, given-is, mapped-is, number-is, then-is, value-is, word-is}
use Rattle.dwarf_unit_core.specs.declared.header.UnitFields.{UnitFields}
use Rattle.dwarf_unit_core.specs.declared.header.UnitType.TheVariants.{Compilation, Partial, Skeleton, SplitCompilation, SplitType, «Type» as TypeUnit}
use Rattle.dwarf_unit_core.specs.Fields.{before_5, from_5, header_size, own_fields, own_size, type_fields, unit_fields, unit_header}
use Rattle.dwarf_unit_core.specs.Seen.{seen_fields}

-- ---- it is a reading

module _ (greatest : ℕ) (format : Format) where
  -- the signature and the offset of a type
  type-is : IsRead (type_fields greatest format)
  type-is =
      then-is (number-is 8) (λ signature.
      then-is (word-is greatest (word_size format)) (λ place. value-is (signature, place)))

  -- the fields that only units of one type have
  own-is : (code : ℕ) → IsRead (own_fields greatest format code)
  own-is code =
      choice-is (code == 1) (value-is _) (
      choice-is (code == 2) (mapped-is type-is) (
      choice-is (code == 3) (value-is _) (
      choice-is (code == 4) (mapped-is (number-is 8)) (
      choice-is (code == 5) (mapped-is (number-is 8)) (
      choice-is (code == 6) (mapped-is type-is)
      (given-is (Err (UnknownUnitType (record { 0 = code }))) (λ position same. grind arith)))))))

  -- the fields after a version before 5
  before_5-is : (code version : ℕ) → IsRead (before_5 greatest format code version)
  before_5-is code version =
      then-is (word-is greatest (word_size format)) (λ table.
      then-is address_size-is (λ size.
      then-is (own-is code) (λ kind. value-is _)))

  -- the fields after version 5
  from_5-is : IsRead (from_5 greatest format)
  from_5-is =
      then-is (number-is 1) (λ code.
      then-is address_size-is (λ size.
      then-is (word-is greatest (word_size format)) (λ table.
      then-is (own-is code) (λ kind. value-is _))))

-- all fields
pub unit_header-is : (code : ℕ) → IsHeader (unit_header code)
unit_header-is code greatest format =
    then-is (number-is 2) (λ version.
    choice-is (version == 5) (from_5-is greatest format) (
    choice-is (nat_le 2 version && nat_le version 4) (before_5-is greatest format code version)
    (given-is (Err (UnknownVersion version)) (λ position same. grind arith))))

-- ---- how many bytes it has

-- a value has as many bytes as `size` says
pub record HasSize {A : Type 0} (size : A → ℕ) (At : Reading A) : Type 0 where
  pub takes : (old new : Input) (x : A) → At old (Ok x, new) → Takes (size x) old new

-- equal numbers of bytes
takes-same : {m n : ℕ} {old new : Input} → m ≡ n → Takes m old new → Takes n old new
takes-same {old = old} {new = new} same takes = subst (λ k. Takes k old new) same takes

-- a number has its bytes
number-takes : {n x : ℕ} {old new : Input} → TakesNumber n old x new → Takes n old new
number-takes is = record { enough = is.enough; left = is.left }

-- a number of n bytes has n
number-size : (n : ℕ) → HasSize (λ x. n) (NumberRead n)
number-size n = record { takes = λ old new x is. number-takes is }

module _ {A : Type 0} {size : A → ℕ} where
  -- a value for which no byte is read has none
  value-size : (x : A) → size x ≡ 0 → HasSize size (Given (Ok x))
  value-size x none = record {
    takes = λ old new y is.
        let same : y ≡ x = grind arith in
        record { enough = grind (arith, none); left = grind (arith, none, after-zero old) };
  }

  -- an error is no value
  error-size : (e : Error) → HasSize size (Given (Err e))
  error-size e = record { takes = λ old new y is. absurd (grind arith) }

  -- either of two readings has the bytes of its value
  choice-size : {One Other : Reading A} (holds : Bool) → HasSize size One → HasSize size Other
      → HasSize size (Choice holds One Other)
  choice-size true one other = one
  choice-size false one other = other

  -- a function of a value has the bytes of that value
  mapped-size : {B : Type 0} {At : Reading B} (f : B → A) → HasSize (λ x. size (f x)) At → HasSize size (Mapped f At)
  mapped-size f read = record {
    takes = λ old new y is. takes-same (ap size (sym is.1)) (read.takes old new is.0 is.2);
  }

module _ (greatest : ℕ) (format : Format) where
  -- the signature and the offset of a type have eight bytes, and those of a word
  type-size : HasSize (λ t. 8 + word_size format) (type_fields greatest format)
  type-size = record {
    takes = λ old new t is.
        subst (λ i. Takes (8 + word_size format) old i) (sym (ap (λ r. r.1) is.3.3))
        (takes-both (number-takes is.2) (number-takes is.3.2.0));
  }

  -- the fields that only units of one type have
  own-size : (code : ℕ) → HasSize (own_size format) (own_fields greatest format code)
  own-size code =
      choice-size (code == 1) (value-size Compilation refl) (
      choice-size (code == 2) (mapped-size (λ t. TypeUnit (record { 0 = t.0 }) (record { 0 = t.1 })) type-size) (
      choice-size (code == 3) (value-size Partial refl) (
      choice-size (code == 4) (mapped-size (λ id. Skeleton (record { 0 = id })) (number-size 8)) (
      choice-size (code == 5) (mapped-size (λ id. SplitCompilation (record { 0 = id })) (number-size 8)) (
      choice-size (code == 6) (mapped-size (λ t. SplitType (record { 0 = t.0 }) (record { 0 = t.1 })) type-size)
      (error-size (UnknownUnitType (record { 0 = code }))))))))

  module _ (old new : Input) (x : UnitFields ℕ) where
    -- the fields after a version before 5
    before_5-size : (code version : ℕ) → before_5 greatest format code version old (Ok x, new)
        → Takes (1 + word_size format + own_size format x.unit_type) old new × (x.version ≡ version)
    before_5-size code version is =
        let given = is.3.3.3 in
        let kind = (own-size code).takes _ _ _ is.3.3.2 in
        let takes = takes-both (number-takes is.2.0) (takes-both (number-takes is.3.2.0) kind) in
        grind (arith, given, takes)

    -- those after version 5
    from_5-size : from_5 greatest format old (Ok x, new)
        → Takes (2 + word_size format + own_size format x.unit_type) old new × (x.version ≡ 5)
    from_5-size is =
        let given = is.3.3.3.3 in
        let kind = (own-size is.0).takes _ _ _ is.3.3.3.2 in
        let takes = takes-both (number-takes is.2) (takes-both (number-takes is.3.2.0) (takes-both (number-takes is.3.3.2.0) kind)) in
        grind (arith, given, takes)

  module _ (old : Input) {mid : Input} (new : Input) (x : UnitFields ℕ) (code : ℕ) {version : ℕ}
      (takes : TakesNumber 2 old version mid) where
    -- the fields after any version
    by_version : (is_5 is_before : Bool) → (version == 5) ≡ is_5 → Choice is_5 (from_5 greatest format)
        (Choice is_before (before_5 greatest format code version) (Given (Err (UnknownVersion version)))) mid (Ok x, new)
        → Takes (header_size format x) old new
    by_version true is_before same is =
        let size = from_5-size mid new x is in
        rw size.1 (takes-same (omega arith) (takes-both (number-takes takes) size.0))
    by_version false true same is =
        let size = before_5-size mid new x code version is in
        rw (size.1, same) (takes-same (omega arith) (takes-both (number-takes takes) size.0))
    by_version false false same is = absurd (grind arith)

-- the header of a unit has as many bytes as its fields
pub unit_header-size : (code greatest : ℕ) (format : Format) → HasSize (header_size format) (unit_header code greatest format)
unit_header-size code greatest format = record {
  takes = λ old new x is. by_version greatest format old new x code is.2 (is.0 == 5) _ refl is.3;
}

-- a size is at least that of the fields that all units have
size-least : (is_5 : Bool) (format : Format) (own : ℕ) → 7 ≤ (if is_5 then 4 else 3) + word_size format + own
size-least true Dwarf32 own = omega arith
size-least true Dwarf64 own = omega arith
size-least false Dwarf32 own = omega arith
size-least false Dwarf64 own = omega arith

-- which is seven
pub header_size-least : (format : Format) (x : UnitFields ℕ) → 7 ≤ header_size format x
header_size-least format x = size-least (x.version == 5) format (own_size format x.unit_type)

-- ---- what is read of it

module _ (greatest : ℕ) (format : Format) (code : ℕ) {O : Type 0} (value : O → ℕ) {old mid : Input} (new : Input)
    {version : ℕ} (takes : TakesNumber 2 old version mid) where
  -- a call that reads the fields after version 5 reads those of the unit
  pub version-5 : version ≡ 5 → (r : Result (UnitFields O) Error)
      → Reads (from_5 greatest format) (seen_fields value) mid r new
      → Reads (unit_fields greatest format code) (seen_fields value) old r new
  version-5 is (Ok x) read = (version, mid, takes, rw is read)
  version-5 is (Err e) read = inr (version, mid, takes, rw is read)

  -- so does one after a version before 5
  pub version-before_5 : 2 ≤ version → version ≤ 4 → (r : Result (UnitFields O) Error)
      → Reads (before_5 greatest format code version) (seen_fields value) mid r new
      → Reads (unit_fields greatest format code) (seen_fields value) old r new
  version-before_5 low high (Ok x) read =
      (version, mid, takes, rw (ne_eqb version 5 (λ same. omega arith), le-leb 2 version low, le-leb version 4 high) read)
  version-before_5 low high (Err e) read =
      inr (
        version,
        mid,
        takes,
        rw (ne_eqb version 5 (λ same. omega arith), le-leb 2 version low, le-leb version 4 high) read,
      )
