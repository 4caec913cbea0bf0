-- The lowest seven bits of a signed number, and the bits above them.
use Rattle.dwarf_reader_core.proofs.Common.{◌≡◌, ℕ, ◌%◌, ◌^◌, ◌<◌, ◌≤◌, ⊎_elim, bit_and, arith, to_z, of_z, w64, ℤ, pos, ◌+ℤ◌, ◌*ℤ◌, cases_lt}
use Rattle.std.proofs.Math.IntN.{nat_abs}
use Rattle.std.specs.Int.{int_shr}
use Rattle.dwarf_reader_core.proofs.leb.Bits.{low_digit}

-- `rest & 0x7f`, as a byte, is the remainder of the bits by 128
pub low_digit_signed : (n : ℕ) → nat_abs (to_z w64 (bit_and n 127)) ≡ n % 128
low_digit_signed n = grind (arith, low_digit)

-- the signed number that `rest >> 7` gives
abbrev pub rest_of : ℕ → ℤ
rest_of n = to_z w64 (of_z w64 (int_shr (to_z w64 n) 7))

-- bits without a sign are their lowest digit and 128 times the bits above
split_low : (n : ℕ) → n < 2 ^ 63 → to_z w64 n ≡ pos (n % 128) +ℤ (pos 128 *ℤ rest_of n)
split_low n low = grind arith

-- bits with a sign are their lowest digit and 128 times the bits above, which keep it
split_high : (n : ℕ) → n < 2 ^ 64 → 2 ^ 63 ≤ n → to_z w64 n ≡ pos (n % 128) +ℤ (pos 128 *ℤ rest_of n)
split_high n fits high = grind arith

-- all bits are their lowest digit and 128 times the bits above
pub split : (n : ℕ) → n < 2 ^ 64 → to_z w64 n ≡ pos (n % 128) +ℤ (pos 128 *ℤ rest_of n)
split n fits = ⊎_elim (split_low n) (split_high n fits) (cases_lt n (2 ^ 63))
