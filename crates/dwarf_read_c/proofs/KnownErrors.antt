-- The errors that a call for C can return have numbers of their own.
use Rattle.dwarf_read_core.specs.declared.Error.TheVariants.{OutOfMemory, UnknownUnitType, UnknownVersion, UnsupportedOffset, UnsupportedSegmentSize}
use Rattle.dwarf_read_core.specs.declared.Format.{Format}
use Rattle.std.specs.Prelude.{⊤, ◌==◌, ◌&&◌, nat_le}
use Rattle.dwarf_read_core.specs.Format.{word_size}
use Rattle.dwarf_read_core.specs.Answer.{Answers, IsFirstError}
use Rattle.dwarf_read_core.specs.Headers.{AddressHeaderRead, Header, StringOffsetsHeaderRead, VersionRead}
use Rattle.dwarf_read_core.specs.Readings.{AddressSizeRead, Choice, Given, Mapped, NumberRead, PartRead, Reading, Required, SkipRead, Then, Within, WordRead}
use Rattle.dwarf_read_core.specs.InitialLength.{LengthRead}
use Rattle.dwarf_read_core.specs.Contributions.{ContributionAtOffset}
use Rattle.dwarf_read_core.specs.Lookups.{ReadAt}
use Rattle.dwarf_read_core.specs.Words.{AddressAt, PlaceRead, Slot, WordAt, distance}
use Rattle.dwarf_unit_core.specs.Fields.{before_5, from_5, own_fields, type_fields, unit_header}
use Rattle.dwarf_read_c.specs.Units.{header_in, type_before_5}
use Rattle.dwarf_read_c.proofs.Common.{◌≢◌, Bool, true, false, ℕ, List, Ok, Err, inl, inr, arith, Error, Input, Kind, StringAt, error_number, IsKnown, HasNoLeb128}

-- the error of bytes that begin with no number has a number of its own
pub known_number : {k : Kind} {bytes : List ℕ} {e : Error} → HasNoLeb128 k bytes e → IsKnown e
known_number absent = grind arith

-- ---- readings

-- each error of a reading has a number of its own
record HasKnown {A : Type 0} (At : Reading A) : Type 0 where
  known : (old new : Input) (e : Error) → At old (Err e, new) → IsKnown e

-- a number
known_read : (n : ℕ) → HasKnown (NumberRead n)
known_read n = record { known = λ old new e short. rw short.fault (omega arith) }

-- bytes that are skipped
known_skip : (n : ℕ) → HasKnown (SkipRead n)
known_skip n = record { known = λ old new e short. rw short.fault (omega arith) }

-- a part of the bytes
known_part : (n : ℕ) → HasKnown (PartRead n)
known_part n = record { known = λ old new e short. rw short.fault (omega arith) }

-- a word of a size that is an offset
known_offset : (greatest n : ℕ) → HasKnown (WordRead greatest n)
known_offset greatest n = record { known = λ old new e is. grind arith }

-- a size of addresses
known_size : HasKnown AddressSizeRead
known_size = record { known = λ old new e is. grind arith }

-- a value has no error
known_value : {A : Type 0} (x : A) → HasKnown (Given (Ok x))
known_value x = record { known = λ old new e is. absurd (grind arith) }

-- an error that is given has its own number
known_given : {A : Type 0} (e : Error) → IsKnown e → HasKnown {A = A} (Given (Err e))
known_given e is_known = record { known = λ old new other is. grind arith }

-- and so has that of a test
known_required : (holds : Bool) (e : Error) → IsKnown e → HasKnown (Required holds e)
known_required true e is_known = known_value tt
known_required false e is_known = known_given e is_known

-- those of one of two readings
known_choice : {A : Type 0} {One Other : Reading A} (holds : Bool) → HasKnown One → HasKnown Other
    → HasKnown (Choice holds One Other)
known_choice true one other = one
known_choice false one other = other

module _ {A B : Type 0} where
  -- those of a function of a reading's value
  known_mapped : (f : A → B) (At : Reading A) → HasKnown At → HasKnown (Mapped f At)
  known_mapped f At read = record { known = read.known }

  -- those of two consecutive readings
  known_then : (At : Reading A) (Next : A → Reading B) → HasKnown At → ((x : A) → HasKnown (Next x))
      → HasKnown (Then At Next)
  known_then At Next first next = record {
    known = λ old new e is. elim is [
      | inl is ↦ first.known old new e is
      | inr is ↦ (next is.0).known is.1 new e is.3
    ];
  }

-- ---- lookups

-- the error of a reading at a place has a number of its own
known_at : {A : Type 0} {Place : Reading ⊤} {At : Reading A} {section : Input} {e : Error} → HasKnown Place
    → HasKnown At → ReadAt Place At section (Err e) → IsKnown e
known_at {section = section} {e} place read is = (known_then _ _ place (λ _. read)).known section is.new e is.read

-- the error of a lookup of a string has a number of its own
pub known_string : (section : Input) (offset : ℕ) (e : Error) → StringAt section offset (Err e) → IsKnown e
known_string section offset e =
    known_at (known_skip offset) (record { known = λ old new e lacks. rw lacks.0.fault (omega arith) })

-- the error for a slot without a place has a number of its own
known_place : (greatest : ℕ) (s : Slot) → HasKnown (PlaceRead greatest s)
known_place greatest s =
    known_then _ _ (known_skip s.base) (λ _.
    known_then _ _ (known_required _ UnsupportedOffset (omega arith)) (λ _. known_skip (distance s)))

-- the error of a lookup of a word has a number of its own
pub known_word : (greatest : ℕ) (s : Slot) (section : Input) (e : Error) → WordAt greatest section s (Err e) → IsKnown e
known_word greatest s section e = known_at (known_place greatest s) (known_offset greatest s.width)

-- the error of a lookup of an address has a number of its own
pub known_address : (greatest : ℕ) (s : Slot) (section : Input) (e : Error) → AddressAt greatest section s (Err e)
    → IsKnown e
known_address greatest s section e =
    known_at (known_place greatest s) (record { known = λ old new e none. grind arith })

-- ---- sets

-- the error of bytes without an initial length has a number of its own
known_length : (greatest : ℕ) → HasKnown (LengthRead greatest)
known_length greatest = record { known = λ old new e absent. grind arith }

-- the error in place of a set has a number of its own, if each error of the header has
known_set : {H : Type 0} (header : Header H) {greatest : ℕ} {section : Input} {offset : ℕ} {e : Error}
    → ((format : Format) → HasKnown (header greatest format))
    → ContributionAtOffset header greatest section offset (Err e) → IsKnown e
known_set header {greatest} {offset = offset} law =
    known_at (known_skip offset)
    (known_then _ _ (known_length greatest) (λ size.
    known_then _ _ (known_part size.1) (λ unit. known_then _ _ (within unit size.0) (λ said. known_value _))))
  where
    within : (unit : Input) (format : Format) → HasKnown (Within unit (header greatest format))
    within unit format = record { known = λ old new e is. (law format).known unit is.0 e is.1 }

-- the error in place of version 5 has a number of its own
known_version : HasKnown VersionRead
known_version =
    known_then _ _ (known_read 2)
    (λ version. known_required (version == 5) (UnknownVersion version) (omega arith))

-- the error in place of a set of addresses has a number of its own
pub known_address_set : {greatest : ℕ} {section : Input} {offset : ℕ} {e : Error}
    → ContributionAtOffset AddressHeaderRead greatest section offset (Err e) → IsKnown e
known_address_set absent =
    known_set AddressHeaderRead (λ format.
    known_then _ _ known_version (λ five.
    known_then _ _ known_size (λ size.
    known_then _ _ (known_read 1) (λ segment.
    known_then _ _ (known_required (segment == 0) (UnsupportedSegmentSize segment) (omega arith)) (λ flat.
    known_value size))))) absent

-- the error in place of a set of string offsets has a number of its own
pub known_str_offset_set : {greatest : ℕ} {section : Input} {offset : ℕ} {e : Error}
    → ContributionAtOffset StringOffsetsHeaderRead greatest section offset (Err e) → IsKnown e
known_str_offset_set absent =
    known_set StringOffsetsHeaderRead (λ format.
    known_then _ _ known_version (λ five. known_then _ _ (known_read 2) (λ padding. known_value tt))) absent

-- ---- units

module _ (greatest : ℕ) (format : Format) where
  -- the error of the fields of a type has a number of its own
  known_type : HasKnown (type_fields greatest format)
  known_type =
      known_then _ _ (known_read 8) (λ signature.
      known_then _ _ (known_offset greatest (word_size format)) (λ place. known_value _))

  -- so has that of the fields that only units of one type have
  known_own : (code : ℕ) → HasKnown (own_fields greatest format code)
  known_own code =
      known_choice (code == 1) (known_value _) (
      known_choice (code == 2) (known_mapped _ _ known_type) (
      known_choice (code == 3) (known_value _) (
      known_choice (code == 4) (known_mapped _ _ (known_read 8)) (
      known_choice (code == 5) (known_mapped _ _ (known_read 8)) (
      known_choice (code == 6) (known_mapped _ _ known_type)
      (known_given (UnknownUnitType (record { 0 = code })) (omega arith)))))))

  -- that of the fields after a version before 5
  known_before_5 : (code version : ℕ) → HasKnown (before_5 greatest format code version)
  known_before_5 code version =
      known_then _ _ (known_offset greatest (word_size format)) (λ table.
      known_then _ _ known_size (λ size.
      known_then _ _ (known_own code) (λ kind. known_value _)))

  -- that of the fields after version 5
  known_from_5 : HasKnown (from_5 greatest format)
  known_from_5 =
      known_then _ _ (known_read 1) (λ code.
      known_then _ _ known_size (λ size.
      known_then _ _ (known_offset greatest (word_size format)) (λ table.
      known_then _ _ (known_own code) (λ kind. known_value _))))

  -- and that of all fields
  known_unit_header : (code : ℕ) → HasKnown (unit_header code greatest format)
  known_unit_header code =
      known_then _ _ (known_read 2) (λ version.
      known_choice (version == 5) known_from_5 (
      known_choice (nat_le 2 version && nat_le version 4) (known_before_5 code version)
      (known_given (UnknownVersion version) (omega arith))))

-- the error in place of a unit has a number of its own
pub known_unit : (is_types : Bool) {greatest : ℕ} {section : Input} {offset : ℕ} {e : Error}
    → ContributionAtOffset (header_in is_types) greatest section offset (Err e) → IsKnown e
known_unit is_types {greatest} absent =
    known_set (header_in is_types) (λ format. known_unit_header greatest format (type_before_5 is_types)) absent

-- ---- tables

-- the first error of bytes that don't begin with a table has a number of its own
known_first_error : {end : ℕ} {bytes : List ℕ} {e : Error} → IsFirstError end bytes e → IsKnown e
known_first_error error = grind arith

-- the error that a call returns in place of a table has a number of its own, also `OutOfMemory`
pub known_table : (section : Input) (offset : ℕ) (e : Error) → Answers (Err e) section offset → IsKnown e
known_table section offset e answers = grind (arith, known_first_error)

-- no other error has the number of `OutOfMemory`
pub memory_number : (e : Error) → e ≢ OutOfMemory → error_number e ≢ error_number OutOfMemory
memory_number e other = grind arith
