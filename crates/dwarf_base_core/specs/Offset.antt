-- The numbers that offsets of a type represent, from 0 to a greatest one.
use Rattle.std.specs.Prelude.{◌≡◌, ◌<◌, ◌+◌, ◌-◌, ℕ, ℤ, pos, negsuc, Option, Some, None}

-- the offset for a signed number: the number itself, or for a negative one `greatest + 1` plus it
abbrev pub offset_from_signed : ℕ → ℤ → ℕ
offset_from_signed greatest (pos n) = n
offset_from_signed greatest (negsuc n) = greatest - n

-- the difference of x and y, or `None` if it is negative
abbrev pub DiffersBy : {O : Type 0} → (O → ℕ) → O → O → Option O → Type 0
DiffersBy value x y (Some z) = value z + value y ≡ value x
DiffersBy value x y None = value x < value y
