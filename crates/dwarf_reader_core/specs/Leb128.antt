-- LEB128 numbers (DWARF 5, 7.6): the bytes that encode one, and what is read from bytes.
use Rattle.std.specs.Prelude.{◌≡◌, ℕ, ◌+◌, ◌*◌, ◌-◌, ◌%◌, ◌^◌, ◌<◌, ◌≤◌, List, [], ◌∷◌, length, take, Bool, false, IsTrue, nat_lt, nat_le, ◌&&◌, ℤ, pos, negsuc, ◌-ℤ◌, int_le, if◌then◌else◌, ◌⊎◌}
use Rattle.std.specs.List.{AllByRecursion}
use Rattle.dwarf_base_core.specs.declared.error.Error.{Error}
use Rattle.dwarf_base_core.specs.declared.error.Error.TheVariants.{BadUnsignedLeb128, BadSignedLeb128}
use Rattle.dwarf_reader_core.specs.Input.{Input, after}
use Rattle.dwarf_reader_core.specs.Faults.{eof_here}

-- bytes that encode a number: all but the last are from 128, the last is below 128
abbrev pub IsEncoding : List ℕ → Type 0
IsEncoding [] = ⊥
IsEncoding (b ∷ []) = b < 128
IsEncoding (b ∷ c ∷ bytes) = (128 ≤ b) × IsEncoding (c ∷ bytes)

-- byte i, counted from 0, has the digit b % 128, which counts 128 ^ i times
abbrev pub unsigned_value : List ℕ → ℕ
unsigned_value [] = 0
unsigned_value (b ∷ bytes) = b % 128 + 128 * unsigned_value bytes

-- bit 6 of the last byte is set
abbrev pub is_negative : List ℕ → Bool
is_negative [] = false
is_negative (b ∷ []) = nat_le 64 (b % 128)
is_negative (b ∷ c ∷ bytes) = is_negative (c ∷ bytes)

-- the value of n bytes is the sum of their digits, less 128 ^ n if they are negative
abbrev pub signed_value : List ℕ → ℤ
signed_value bytes = pos (unsigned_value bytes) -ℤ pos (if is_negative bytes then 128 ^ length bytes else 0)

-- the kinds of numbers that are read
pub data Kind : Type 0 where
  unsigned64 : Kind
  unsigned16 : Kind
  signed64 : Kind

abbrev pub Number : Kind → Type 0
Number unsigned64 = ℕ
Number unsigned16 = ℕ
Number signed64 = ℤ

-- how many bytes an encoding of the kind may have
abbrev pub limit : Kind → ℕ
limit unsigned64 = 10
limit unsigned16 = 3
limit signed64 = 10

-- the value of bytes that encode a number of the kind
abbrev pub value : (k : Kind) → List ℕ → Number k
value unsigned64 bytes = unsigned_value bytes
value unsigned16 bytes = unsigned_value bytes
value signed64 bytes = signed_value bytes

abbrev pub is_in_range : (k : Kind) → Number k → Bool
is_in_range unsigned64 n = nat_lt n (2 ^ 64)
is_in_range unsigned16 n = nat_lt n (2 ^ 16)
is_in_range signed64 n = int_le (negsuc (2 ^ 63 - 1)) n && int_le n (pos (2 ^ 63 - 1))

-- the error for bytes that are no number of the kind
abbrev pub overflow_error : Kind → Error
overflow_error unsigned64 = BadUnsignedLeb128
overflow_error unsigned16 = BadUnsignedLeb128
overflow_error signed64 = BadSignedLeb128

-- the bytes encode this number of the kind, within its limit and its range
pub record IsLeb128 (k : Kind) (bytes : List ℕ) (number : Number k) : Type 0 where
  pub encoding : IsEncoding bytes
  pub within : length bytes ≤ limit k
  pub means : value k bytes ≡ number
  pub in_range : IsTrue (is_in_range k number)

-- the first n bytes encode the number
pub record HasLeb128 (k : Kind) (bytes : List ℕ) (number : Number k) (n : ℕ) : Type 0 where
  pub enough : n ≤ length bytes
  pub is_number : IsLeb128 k (take n bytes) number

-- the bytes end before the limit of the kind, and none of them is the last of an encoding, which is below 128
pub record IsTruncated (k : Kind) (bytes : List ℕ) : Type 0 where
  pub short : length bytes < limit k
  pub unended : AllByRecursion (λ b. 128 ≤ b) bytes

-- the bytes begin with no number of the kind, and not just because they end too early
pub record IsMalformed (k : Kind) (bytes : List ℕ) : Type 0 where
  pub no_number : (number : Number k) (n : ℕ) → HasLeb128 k bytes number n → ⊥
  pub not_cut : IsTruncated k bytes → ⊥

-- what is read from bytes
pub data Outcome (k : Kind) : Type 0 where
  -- a number, and how many bytes it has
  Value : Number k → ℕ → Outcome k
  -- the bytes end before the number does
  End : Outcome k
  -- the bytes are no number of the kind
  Bad : Outcome k

abbrev pub HasOutcome : (k : Kind) → List ℕ → Outcome k → Type 0
HasOutcome k bytes (Value number n) = HasLeb128 k bytes number n
HasOutcome k bytes End = IsTruncated k bytes
HasOutcome k bytes Bad = IsMalformed k bytes

-- a number is read, and its bytes are consumed
pub record ReadsLeb128 (k : Kind) (old : Input) (number : Number k) (new : Input) : Type 0 where
  pub len : ℕ
  pub has : HasLeb128 k old.bytes number len
  pub left : new ≡ after len old

-- the bytes end before the number does, and all are consumed
pub record IsTruncatedLeb128 (k : Kind) (old : Input) (e : Error) (new : Input) : Type 0 where
  pub cut : IsTruncated k old.bytes
  pub left : new ≡ after (length old.bytes) old
  pub fault : e ≡ eof_here new

-- the bytes are bad, and as many as the limit of the kind are consumed
pub record IsMalformedLeb128 (k : Kind) (old : Input) (e : Error) (new : Input) : Type 0 where
  pub bad : IsMalformed k old.bytes
  pub left : new ≡ after (limit k) old
  pub fault : e ≡ overflow_error k

-- no number is read, with one of two errors
abbrev pub ReadsNoLeb128 : Kind → Input → Error → Input → Type 0
ReadsNoLeb128 k old e new = IsTruncatedLeb128 k old e new ⊎ IsMalformedLeb128 k old e new

-- an encoding of any length is consumed
pub record TakesEncoding (old new : Input) : Type 0 where
  pub len : ℕ
  pub enough : len ≤ length old.bytes
  pub encoding : IsEncoding (take len old.bytes)
  pub left : new ≡ after len old

-- none of the bytes is the last of an encoding
abbrev pub NoneIsLast : List ℕ → Type 0
NoneIsLast bytes = AllByRecursion (λ b. 128 ≤ b) bytes

-- no encoding is at the front: all bytes are consumed, and the error is that of missing bytes
pub record TakesNoEncoding (old : Input) (e : Error) (new : Input) : Type 0 where
  pub none : NoneIsLast old.bytes
  pub left : new ≡ after (length old.bytes) old
  pub fault : e ≡ eof_here new

-- a number is read, and it is at least the bound
pub record IsOver (bound : ℕ) (old : Input) (e : Error) (new : Input) : Type 0 where
  pub number : ℕ
  pub taken : ReadsLeb128 unsigned64 old number new
  pub over : bound ≤ number
  pub fault : e ≡ BadUnsignedLeb128
