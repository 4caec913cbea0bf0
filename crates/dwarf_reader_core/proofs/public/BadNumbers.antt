-- Bytes that begin with a bad LEB128 number still do with more bytes after them.
use Rattle.dwarf_reader_core.proofs.Common.{common_steps, ℕ, zero, suc, ◌<◌, ◌≤◌, List, [], ◌∷◌, ◌++◌, length, take, arith, length-take-le, cases_lt, Kind, IsEncoding, NoneIsLast}
use Rattle.dwarf_reader_core.specs.Leb128.{IsMalformed}

-- if the encoding at the front is longer than the first bytes, none of these is its last
unended : (n : ℕ) (bytes more : List ℕ) → length bytes < n → n ≤ length (bytes ++ more)
    → IsEncoding (take n (bytes ++ more)) → NoneIsLast bytes
unended n [] more long fits h = tt
unended zero (x ∷ bytes) more long fits h = absurd (omega arith)
unended (suc zero) (x ∷ bytes) more long fits h = absurd (omega arith)
unended (suc (suc n)) (x ∷ []) more long fits h = grind arith
unended (suc (suc n)) (x ∷ y ∷ bytes) more long fits h = grind (arith, (unended (suc n) (y ∷ bytes) more))

-- if none of the bytes is the last of an encoding, neither is one of their front
all_front : (bytes more : List ℕ) → NoneIsLast (bytes ++ more) → NoneIsLast bytes
all_front [] more h = tt
all_front (x ∷ bytes) more h = (h.0, all_front bytes more h.1)

-- bytes that begin with a bad number still do with more bytes after them
pub bad_more : (k : Kind) (bytes more : List ℕ) → IsMalformed k bytes → IsMalformed k (bytes ++ more)
bad_more k bytes more bad = grind (arith, common_steps, cases_lt, length-take-le, unended, all_front)
