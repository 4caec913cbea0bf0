-- The shortest encodings of numbers (DWARF 5, 7.6), and the buffer that holds one.
use Rattle.std.specs.Prelude.{◌≡◌, ◌≢◌, ℕ, ◌-◌, ◌<◌, ◌≤◌, List, ◌++◌, length, take, drop, replicate, All}
use Rattle.std.proofs.Common.{sym, ap, ◌∙◌}
use Rattle.std.proofs.lemmas.List.{length-take-le, take-append-drop}
use Rattle.dwarf_reader_core.specs.Leb128.{IsEncoding, Kind, Number, value}
use Rattle.dwarf_reader_core.specs.declared.leb128.write.Leb128.TheInside.{Inside}

-- bytes that encode the number, of whatever length
pub record Encodes (k : Kind) (bytes : List ℕ) (number : Number k) : Type 0 where
  pub are_bytes : All (λ b. b < 256) bytes
  pub encoding : IsEncoding bytes
  pub means : value k bytes ≡ number

-- strictly shorter than all other bytes that encode the number
pub record IsShortest (k : Kind) (number : Number k) (bytes : List ℕ) : Type 0 where
  pub encodes : Encodes k bytes number
  pub shorter : (other : List ℕ) → Encodes k other number → other ≢ bytes → length bytes < length other

-- the length of the shortest bytes that encode the number
pub record IsShortestLength (k : Kind) (number : Number k) (len : ℕ) : Type 0 where
  pub bytes : List ℕ
  pub shortest : IsShortest k number bytes
  pub counted : len ≡ length bytes

-- ten places: an encoding of `len` bytes, and zeros after it
pub record IsPadded (buffer : Inside) : Type 0 where
  pub places : length buffer.bytes ≡ 10
  pub within : buffer.len ≤ 10
  pub zeros : drop buffer.len buffer.bytes ≡ replicate (10 - buffer.len) 0
  pub encoding : IsEncoding (take buffer.len buffer.bytes)

abbrev pub encoding_of : Inside → List ℕ
encoding_of buffer = take buffer.len buffer.bytes

-- an encoding with zeros after it, in ten places
abbrev pub padded : List ℕ → Inside
padded bytes = record { bytes = bytes ++ replicate (10 - length bytes) 0; len = length bytes }

pub padded-encoding_of : (buffer : Inside) → IsPadded buffer → padded (encoding_of buffer) ≡ buffer
padded-encoding_of buffer is_padded =
    let len_is : length (encoding_of buffer)
    ≡ buffer.len = length-take-le buffer.len buffer.bytes (rw is_padded.places is_padded.within) in
    let bytes_are : encoding_of buffer ++ replicate (10 - buffer.len) 0 ≡ buffer.bytes =
    ap (λ rest. encoding_of buffer ++ rest) (sym is_padded.zeros) ∙ take-append-drop buffer.len buffer.bytes
    in
    let with_len : ℕ → Inside = λ n. record { bytes = encoding_of buffer ++ replicate (10 - n) 0; len = n } in
    let with_bytes : List ℕ → Inside = λ bytes. record { bytes = bytes; len = buffer.len } in
    ap with_len len_is ∙ ap with_bytes bytes_are
