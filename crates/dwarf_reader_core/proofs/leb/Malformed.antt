-- Bytes are bad exactly if no bytes after them make them begin with a number.
use Rattle.dwarf_reader_core.proofs.Common.{◌≡◌, ℕ, ◌*◌, ◌^◌, ◌<◌, ◌≤◌, ◌↔◌, List, [], ◌∷◌, ◌++◌, length, take, refl, arith, IsTrue, take_all, length-append, Kind, unsigned64, unsigned16, signed64, Number, value, limit, is_in_range, unsigned_value, HasLeb128, IsTruncated}
use Rattle.std.proofs.Common.{append-nil}
use Rattle.dwarf_reader_core.specs.Leb128.{IsMalformed, IsLeb128}
use Rattle.dwarf_reader_core.proofs.public.BadNumbers.{bad_more}
use Rattle.dwarf_reader_core.proofs.leb.Encodings.{IsEncoding-push, unsigned_value-push, is_negative-push, worth_below}

-- the value of at most m bytes and a zero byte is below the place of byte m
zero_adds_nothing : (bytes : List ℕ) (m : ℕ) → length bytes ≤ m → unsigned_value (bytes ++ 0 ∷ []) < 2 ^ (7 * m)
zero_adds_nothing bytes m within =
    let low = worth_below bytes (length bytes) m (omega arith) within in
    let same = unsigned_value-push bytes 0 in
    let all : take (length bytes) bytes ≡ bytes = take_all (length bytes) bytes (omega arith) in
    let below = rw all at low in
    omega (arith, same, below)

-- the number that a zero byte ends is in the range of its kind
zero_fits : (k : Kind) (bytes : List ℕ) → length bytes < limit k
    → IsTrue (is_in_range k (value k (bytes ++ 0 ∷ [])))
zero_fits unsigned64 bytes short = grind (arith, zero_adds_nothing bytes 9 (omega arith))
zero_fits unsigned16 bytes short = grind (arith, zero_adds_nothing bytes 2 (omega arith))
zero_fits signed64 bytes short = grind (arith, zero_adds_nothing bytes 9 (omega arith), is_negative-push bytes 0)

-- bytes that end too early begin with a number if a zero byte follows
zero_ends : (k : Kind) (bytes : List ℕ) → IsTruncated k bytes
    → HasLeb128 k (bytes ++ 0 ∷ []) (value k (bytes ++ 0 ∷ [])) (length (bytes ++ 0 ∷ []))
zero_ends k bytes cut =
    let whole = bytes ++ 0 ∷ [] in
    let long = length-append bytes (0 ∷ []) in
    let number : IsLeb128 k whole (value k whole) = record {
      encoding = IsEncoding-push bytes 0 cut.unended (omega arith);
      within = omega (arith, long, cut.short);
      means = refl;
      in_range = zero_fits k bytes cut.short;
    } in
    record { enough = omega arith; is_number = rw (take_all (length whole) whole (omega arith)) number }

-- bytes are bad exactly if no bytes after them make them begin with a number
pub bad_bytes : (k : Kind) (bytes : List ℕ) → IsMalformed k bytes
    ↔ ((more : List ℕ) (number : Number k) (n : ℕ) → HasLeb128 k (bytes ++ more) number n → ⊥)
bad_bytes k bytes = (
  λ bad more. (bad_more k bytes more bad).no_number,
  λ never. record {
    no_number = λ number n has. never [] number n (rw (append-nil bytes) has);
    not_cut = λ cut. never (0 ∷ []) _ _ (zero_ends k bytes cut);
  },
)
