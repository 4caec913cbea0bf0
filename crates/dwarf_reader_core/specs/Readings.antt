-- Readings: what a call reads at the front of an input, and what remains then.
use Rattle.std.specs.Prelude.{◌≡◌, ◌<◌, ◌≤◌, ℕ, ℤ, ⊤, Bool, true, false, List, take, Result, Ok, Err, IfErr, ◌⊎◌, IsTrue, if◌then◌else◌}
use Rattle.dwarf_base_core.specs.declared.error.Error.{Error}
use Rattle.dwarf_base_core.specs.declared.error.Error.TheVariants.{UnsupportedOffset}
use Rattle.dwarf_reader_core.specs.Appended.{IsNotEof, followed_by}
use Rattle.dwarf_reader_core.specs.Faults.{CloneRanOutOfMemory, HasNoByte, IsTooShort, IsUnsupportedAddressSize, ReadsNoAddress, ReadsNoOffset, ReadsNoWord, eof, is_number_size}
use Rattle.dwarf_reader_core.specs.Input.{Input, Takes, TakesByte, TakesNumber, TakesSigned, TakesString, first}
use Rattle.dwarf_reader_core.specs.Leb128.{IsOver, Kind, Number, ReadsNoLeb128, ReadsLeb128, TakesEncoding, TakesNoEncoding, unsigned64}
use Rattle.dwarf_reader_core.specs.Once.{HasOne}

-- a reading relates an input to a value or an error, and to what remains after either
abbrev pub Reading : Type 0 → Type 1
Reading A = Input → Result A Error × Input → Type 0

-- ---- what the calls of a reader read

-- n bytes, which are skipped
abbrev pub SkipRead : ℕ → Reading ⊤
SkipRead n old (Ok done, new) = Takes n old new
SkipRead n old (Err e, new) = IsTooShort n old e new

-- a part of n bytes
abbrev pub PartRead : ℕ → Reading Input
PartRead n old (Ok part, new) = (part ≡ first n old) × Takes n old new
PartRead n old (Err e, new) = IsTooShort n old e new

-- n bytes, which are copied
abbrev pub BytesRead : ℕ → Reading (List ℕ)
BytesRead n old (Ok bytes, new) = (bytes ≡ take n old.bytes) × Takes n old new
BytesRead n old (Err e, new) = IsTooShort n old e new

-- the string up to the first zero byte
abbrev pub StringRead : Reading Input
StringRead old (Ok string, new) = TakesString old string new
StringRead old (Err e, new) = HasNoByte 0 old e × (new ≡ old)

-- a number of n bytes
abbrev pub NumberRead : ℕ → Reading ℕ
NumberRead n old (Ok x, new) = TakesNumber n old x new
NumberRead n old (Err e, new) = IsTooShort n old e new

-- a signed number of n bytes
abbrev pub SignedRead : ℕ → Reading ℤ
SignedRead n old (Ok x, new) = TakesSigned n old x new
SignedRead n old (Err e, new) = IsTooShort n old e new

-- a LEB128 number of a kind
abbrev pub Leb128Read : (k : Kind) → Reading (Number k)
Leb128Read k old (Ok x, new) = ReadsLeb128 k old x new
Leb128Read k old (Err e, new) = ReadsNoLeb128 k old e new

-- an unsigned LEB128 number below a bound
abbrev pub BoundedRead : ℕ → Reading ℕ
BoundedRead bound old (Ok x, new) = ReadsLeb128 unsigned64 old x new × (x < bound)
BoundedRead bound old (Err e, new) = ReadsNoLeb128 unsigned64 old e new ⊎ IsOver bound old e new

-- a LEB128 encoding of any length, which is skipped
abbrev pub EncodingRead : Reading ⊤
EncodingRead old (Ok done, new) = TakesEncoding old new
EncodingRead old (Err e, new) = TakesNoEncoding old e new

-- a word of n bytes, which has to be an offset
abbrev pub WordRead : ℕ → ℕ → Reading ℕ
WordRead greatest n old (Ok x, new) = TakesNumber n old x new × (x ≤ greatest)
WordRead greatest n old (Err e, new) = ReadsNoWord greatest n old e new

-- an offset of this size
abbrev pub OffsetRead : ℕ → ℕ → Reading ℕ
OffsetRead greatest size old (Ok x, new) = TakesNumber size old x new × IsTrue (is_number_size size) × (x ≤ greatest)
OffsetRead greatest size old (Err e, new) = ReadsNoOffset greatest size old e new

-- an address of this size
abbrev pub AddressRead : ℕ → Reading ℕ
AddressRead size old (Ok x, new) = TakesNumber size old x new × IsTrue (is_number_size size)
AddressRead size old (Err e, new) = ReadsNoAddress size old e new

-- a byte, which has to be a size of addresses
abbrev pub AddressSizeRead : Reading ℕ
AddressSizeRead old (Ok x, new) = TakesByte old x new × IsTrue (is_number_size x)
AddressSizeRead old (Err e, new) = IsTooShort 1 old e new ⊎ IsUnsupportedAddressSize old e new

-- ---- readings made of others

-- this result, for which no byte is read
abbrev pub Given : {A : Type 0} → Result A Error → Reading A
Given result old read = read ≡ (result, old)

-- a function of the value of a reading
abbrev pub Mapped : {A B : Type 0} → (A → B) → Reading A → Reading B
Mapped {A = A} f At old (Ok y, new) = (x : A) × (y ≡ f x) × At old (Ok x, new)
Mapped f At old (Err e, new) = At old (Err e, new)

-- a reading, and then another, which may depend on the value of the first
abbrev pub Then : {A B : Type 0} → Reading A → (A → Reading B) → Reading B
Then {A = A} At Next old (Ok y, new) = (x : A) × (mid : Input) × At old (Ok x, mid) × Next x mid (Ok y, new)
Then {A = A} At Next old (Err e, new) =
    At old (Err e, new) ⊎ ((x : A) × (mid : Input) × At old (Ok x, mid) × Next x mid (Err e, new))

-- the same, as `do` has it: `x ← At` on a line, and the next reading below
infixl 10 ◌>>=◌
abbrev pub ◌>>=◌ : {A B : Type 0} → Reading A → (A → Reading B) → Reading B
At >>= Next = Then At Next

-- a number that is read in this way, and has to be an offset
abbrev pub AsOffset : ℕ → Reading ℕ → Reading ℕ
AsOffset greatest At old (Ok x, new) = At old (Ok x, new) × (x ≤ greatest)
AsOffset greatest At old (Err e, new) =
    At old (Err e, new) ⊎ ((x : ℕ) × At old (Ok x, new) × (greatest < x) × (e ≡ UnsupportedOffset))

-- a reading of a part of the bytes, which was read before; what remains of the part comes with the value
abbrev pub Within : {A : Type 0} → Input → Reading A → Reading (A × Input)
Within part At old (Ok x, new) = At part (Ok x.0, x.1) × (new ≡ old)
Within part At old (Err e, new) = (left : Input) × At part (Err e, left) × (new ≡ old)

-- a test that has to hold; if it doesn't, the result is this error
abbrev pub Required : Bool → Error → Reading ⊤
Required holds e = Given (if holds then Ok tt else Err e)

-- one reading if a test holds, and else the other
abbrev pub Choice : {A : Type 0} → Bool → Reading A → Reading A → Reading A
Choice true One Other old read = One old read
Choice false One Other old read = Other old read

-- ---- calls that read

-- a call reads this: its result is the view of the value that it returns, or the error
abbrev pub Reads : {X A : Type 0} → Reading A → (X → A) → Input → Result X Error → Input → Type 0
Reads At seen old (Ok x) new = At old (Ok (seen x), new)
Reads At seen old (Err e) new = At old (Err e, new)

-- the same, if a clone of the reader doesn't run out of memory
abbrev pub ReadsIfCloned : {X A : Type 0} → Bool → Reading A → (X → A) → Input → Result X Error → Input → Type 0
ReadsIfCloned clone_is_free At seen old (Ok x) new = At old (Ok (seen x), new)
ReadsIfCloned clone_is_free At seen old (Err e) new = At old (Err e, new) ⊎ CloneRanOutOfMemory clone_is_free e

-- ---- what holds of each

-- the next bytes decide everything: each input has exactly one result, and exactly one input remains; appended bytes
-- change a result only where bytes were missing, and are all that is added to what remains; and what remains is what
-- follows some of the bytes
pub record IsDecided {A : Type 0} (At : Reading A) : Type 0 where
  pub one : (old : Input) → HasOne (At old)
  pub more : (old new : Input) (result : Result A Error) (more : List ℕ) → At old (result, new)
      → IfErr result IsNotEof → At (followed_by old more) (result, followed_by new more)
  pub taken : (old new : Input) (result : Result A Error) → At old (result, new) → (n : ℕ) × Takes n old new

-- the next bytes decide everything, and where bytes are missing, the reading stops at their position
pub record IsRead {A : Type 0} (At : Reading A) : Type 0 where
  pub decided : IsDecided At
  pub missing : (old new : Input) (position : ℕ) → At old (Err (eof position), new) → position ≡ new.position
