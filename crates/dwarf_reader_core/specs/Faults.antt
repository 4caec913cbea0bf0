-- The errors of a reading.
use Rattle.std.specs.Prelude.{◌≡◌, ◌≢◌, ℕ, ◌<◌, length, List, [], ◌∷◌, Bool, false, All, ◌==◌, ◌||◌, IsTrue, ◌⊎◌}
use Rattle.dwarf_base_core.specs.declared.error.Error.{Error}
use Rattle.dwarf_base_core.specs.declared.error.Error.TheVariants.{UnexpectedEof, UnsupportedOffset, UnsupportedAddressSize, UnsupportedOffsetSize, OutOfMemory}
use Rattle.dwarf_reader_core.specs.Input.{Input, Takes, TakesByte, TakesNumber}

-- the error that bytes are missing at a position
abbrev pub eof : ℕ → Error
eof position = UnexpectedEof (record { 0 = position })

-- the error that bytes are missing at the input's position
abbrev pub eof_here : Input → Error
eof_here input = eof input.position

-- fewer than n bytes remain: the error is that of missing bytes, and nothing is consumed
pub record IsTooShort (n : ℕ) (old : Input) (e : Error) (new : Input) : Type 0 where
  pub short : length old.bytes < n
  pub fault : e ≡ eof_here old
  pub left : new ≡ old

-- of consecutive fields of these sizes, the first that isn't there whole has this error: that of missing bytes, at the
-- position where the field begins
abbrev pub IsCutIn : Input → List ℕ → Error → Type 0
IsCutIn input [] e = ⊥
IsCutIn input (size ∷ sizes) e =
    IsTooShort size input e input ⊎ ((rest : Input) × Takes size input rest × IsCutIn rest sizes e)

-- none of the bytes that remain has this value: the error is that of missing bytes
pub record HasNoByte (byte : ℕ) (input : Input) (e : Error) : Type 0 where
  pub none : All (λ b. b ≢ byte) input.bytes
  pub fault : e ≡ eof_here input

-- a clone ran out of memory, which can only happen if clones can fail
pub record CloneRanOutOfMemory (clone_is_free : Bool) (e : Error) : Type 0 where
  pub costs : clone_is_free ≡ false
  pub fault : e ≡ OutOfMemory

-- a number of n bytes is consumed, and it is too great for an offset
pub record ExceedsOffset (greatest n : ℕ) (old : Input) (e : Error) (new : Input) : Type 0 where
  pub number : ℕ
  pub taken : TakesNumber n old number new
  pub over : greatest < number
  pub fault : e ≡ UnsupportedOffset

-- the sizes that addresses and offsets may have
abbrev pub is_number_size : ℕ → Bool
is_number_size size = size == 1 || size == 2 || size == 4 || size == 8

-- a byte is consumed, and it is none of the sizes of addresses
pub record IsUnsupportedAddressSize (old : Input) (e : Error) (new : Input) : Type 0 where
  pub size : ℕ
  pub taken : TakesByte old size new
  pub none : is_number_size size ≡ false
  pub fault : e ≡ UnsupportedAddressSize size

-- the size is none of those that numbers have, and nothing is consumed
pub record IsUnsupportedSize (error : ℕ → Error) (size : ℕ) (old : Input) (e : Error) (new : Input) : Type 0 where
  pub none : is_number_size size ≡ false
  pub fault : e ≡ error size
  pub left : new ≡ old

-- no address of this size is read: addresses don't have this size, or bytes are missing
abbrev pub ReadsNoAddress : ℕ → Input → Error → Input → Type 0
ReadsNoAddress size old e new =
    IsUnsupportedSize UnsupportedAddressSize size old e new ⊎ (IsTrue (is_number_size size) × IsTooShort size old e new)

-- no word of n bytes is read as an offset: bytes are missing, or the number is too great
abbrev pub ReadsNoWord : ℕ → ℕ → Input → Error → Input → Type 0
ReadsNoWord greatest n old e new = IsTooShort n old e new ⊎ ExceedsOffset greatest n old e new

-- no offset of this size is read: offsets don't have this size, or no word of it is read as one
abbrev pub ReadsNoOffset : ℕ → ℕ → Input → Error → Input → Type 0
ReadsNoOffset greatest size old e new =
    IsUnsupportedSize UnsupportedOffsetSize size old e new
    ⊎ (IsTrue (is_number_size size) × ReadsNoWord greatest size old e new)
