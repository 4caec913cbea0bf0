-- Writing the shortest encoding of a number, one byte after the other, into ten places.
use Rattle.dwarf_reader_core.proofs.Common.{◌≡◌, ℕ, zero, suc, ◌+◌, ◌-◌, ◌*◌, ◌^◌, ◌<◌, List, [], ◌∷◌, ◌++◌, length, take, drop, set, replicate, sym, ap, ◌∙◌, arith, ℤ, pos, negsuc, ◌+ℤ◌, ◌*ℤ◌, ◌≤ℤ◌, ◌<ℤ◌, take_more_set, drop-set-lt, drop-drop, drop-replicate, append_assoc, length-set, Kind, Number, value, signed_value, IsPadded, IsShortest}
use Rattle.dwarf_reader_core.proofs.leb.Shortest.{join, IsLong, IsShortest-one, IsShortest-more}

-- the bytes so far, with the shortest encoding of the rest after them, are the shortest of the number, and zeros are
-- in the places after them
pub record IsBegun (k : Kind) (number rest : Number k) (bytes : List ℕ) (len : ℕ) : Type 0 where
  pub completes : (tail : List ℕ) → IsShortest k rest tail → IsShortest k number (take len bytes ++ tail)
  pub places : length bytes ≡ 10
  pub room : len < 10
  pub zeros : drop len bytes ≡ replicate (10 - len) 0

module _ {k : Kind} {number rest : Number k} {bytes : List ℕ} {len : ℕ} (begun : IsBegun k number rest bytes len)
    (digit : ℕ) (small : digit < 128) where
  -- a byte is placed after the bytes so far
  placed : (byte : ℕ) → take (len + 1) (set bytes len byte) ≡ take len bytes ++ byte ∷ []
  placed byte = take_more_set bytes len byte (rw begun.places begun.room)

  -- the places after one more byte are still zeros
  zeros-more : (byte : ℕ) → drop (len + 1) (set bytes len byte) ≡ replicate (10 - (len + 1)) 0
  zeros-more byte =
      let one_less : 10 - len - 1 ≡ 10 - (len + 1) = omega arith in
      drop-set-lt (len + 1) bytes len byte (omega arith) ∙ sym (drop-drop 1 len bytes) ∙ ap (drop 1) begun.zeros
      ∙ drop-replicate 1 (10 - len) 0 ∙ ap (λ n. replicate n 0) one_less

  -- the lowest digit of a rest of more than one byte is placed with a continuation bit
  pub begun-more : (above : Number k) → IsLong k rest → rest ≡ join k digit above → len + 1 < 10
      → IsBegun k number above (set bytes len (digit + 128)) (len + 1)
  begun-more above long is more = record {
    completes = λ tail least. rw (placed (digit + 128), append_assoc)
        (begun.completes ((digit + 128) ∷ tail) (IsShortest-more k rest above digit tail small long is least));
    places = length-set bytes len (digit + 128) ∙ begun.places;
    room = more;
    zeros = zeros-more (digit + 128);
  }

  -- a rest of one byte completes the shortest encoding
  pub begun-ends : value k (digit ∷ []) ≡ rest → IsShortest k number (take (len + 1) (set bytes len digit))
  begun-ends is = rw (placed digit) (begun.completes (digit ∷ []) (IsShortest-one k rest digit small is))

  -- with the byte of a rest of one byte, the buffer has an encoding and zeros after it
  pub begun-padded : value k (digit ∷ []) ≡ rest → IsPadded record { bytes = set bytes len digit; len = len + 1 }
  begun-padded is = record {
    places = length-set bytes len digit ∙ begun.places;
    within = omega (arith, begun.room);
    zeros = zeros-more digit;
    encoding = (begun-ends is).encodes.encoding;
  }

-- the signed numbers that one byte can encode
abbrev pub FitsByte : ℤ → Type 0
FitsByte v = (negsuc 63 ≤ℤ v) × (v ≤ℤ pos 63)

-- the number can be encoded in `left + 1` bytes
abbrev pub FitsBytes : ℕ → ℤ → Type 0
FitsBytes left v = (pos 0 ≤ℤ (v +ℤ pos (64 * 128 ^ left))) × (v <ℤ pos (64 * 128 ^ left))

-- a number that needs more than one byte leaves room for the number above its lowest digit
pub room_left : (left next : ℕ) (v above : ℤ) (digit : ℕ) → next ≡ left - 1 → digit < 128 → (FitsByte v → ⊥)
    → v ≡ pos digit +ℤ (pos 128 *ℤ above) → FitsBytes left v → (0 < left) × FitsBytes next above
room_left zero next v above digit same small wide v_is fits = grind arith
room_left (suc left) next v above digit same small wide v_is fits = grind arith

-- a number that fits a byte is encoded by the byte of its lowest digit
pub signed_value-only : (v above : ℤ) (digit : ℕ) → digit < 128 → FitsByte v → v ≡ pos digit +ℤ (pos 128 *ℤ above)
    → signed_value (digit ∷ []) ≡ v
signed_value-only v above digit small fits v_is = grind arith
