-- What represents a reader, and what a call consumes of it.
use Rattle.std.specs.Prelude.{◌≡◌, ◌≢◌, ℕ, ◌+◌, ◌<◌, ◌≤◌, ◌^◌, Bool, List, length, take, drop, All, slice_index, ℤ}
use Rattle.dwarf_base_core.specs.Number.{number_of, signed_number}

-- the bytes that remain, the position of the first of them, and whether the highest byte of a number comes first
pub record Input : Type 0 where
  pub bytes : List ℕ
  pub position : ℕ
  pub is_big : Bool

-- a section of these bytes, in this byte order: its first byte has position 0
abbrev pub section_of : List ℕ → Bool → Input
section_of bytes is_big = record { bytes = bytes; position = 0; is_big = is_big }

-- what holds of every reader: positions are below 2 ^ 64, lengths are offsets, and bytes are below 256
pub record IsBounded (greatest : ℕ) (input : Input) : Type 0 where
  pub positions : input.position + length input.bytes < 2 ^ 64
  pub lengths : length input.bytes ≤ greatest
  pub bytes : All (λ b. b < 256) input.bytes

-- the position after the last byte
abbrev pub end_of : Input → ℕ
end_of input = input.position + length input.bytes

-- what remains after n bytes are consumed
abbrev pub after : ℕ → Input → Input
after n input = record input { bytes = drop n input.bytes; position = input.position + n }

-- only the first n bytes
abbrev pub first : ℕ → Input → Input
first n input = record input { bytes = take n input.bytes }

-- n bytes are consumed
pub record Takes (n : ℕ) (old new : Input) : Type 0 where
  pub enough : n ≤ length old.bytes
  pub left : new ≡ after n old

-- the number that n bytes encode is consumed
pub record TakesNumber (n : ℕ) (old : Input) (x : ℕ) (new : Input) : Type 0 where
  pub enough : n ≤ length old.bytes
  pub encoded : x ≡ number_of old.is_big (take n old.bytes)
  pub left : new ≡ after n old

-- a byte is consumed
abbrev pub TakesByte : Input → ℕ → Input → Type 0
TakesByte old byte new = TakesNumber 1 old byte new

-- n bytes are consumed whose number is this signed one
pub record TakesSigned (n : ℕ) (old : Input) (x : ℤ) (new : Input) : Type 0 where
  pub number : ℕ
  pub taken : TakesNumber n old number new
  pub signed : x ≡ signed_number n number

-- the index is that of the first byte with this value
pub record IsFirst (byte : ℕ) (bytes : List ℕ) (index : ℕ) : Type 0 where
  pub within : index < length bytes
  pub here : slice_index bytes index ≡ byte
  pub before : All (λ b. b ≢ byte) (take index bytes)

-- the bytes up to the first zero byte are consumed with that byte, and are the string without it
pub record TakesString (old string new : Input) : Type 0 where
  pub len : ℕ
  pub ends : IsFirst 0 old.bytes len
  pub content : string ≡ first len old
  pub left : new ≡ after (len + 1) old

-- the part lies within the whole, from its position to its end
pub record IsPartOf (part whole : Input) : Type 0 where
  pub starts : whole.position ≤ part.position
  pub ends : end_of part ≤ end_of whole

-- the position is that of a byte that remains, or that of the end
abbrev pub Covers : Input → ℕ → Type 0
Covers input id = (input.position ≤ id) × (id ≤ end_of input)
