-- Numbers of a fixed width as bytes.
use Rattle.std.specs.Prelude.{ℕ, ◌≡◌, ◌<◌, ◌+◌, ◌*◌, ◌^◌, Bool, List, [], ◌∷◌, length, reverse, All, ℤ, pos, ◌-ℤ◌, nat_lt, if◌then◌else◌}

-- the number with these digits in a base, the lowest first: the sum of each digit times the base to the power of its
-- place
abbrev pub number_in_base : ℕ → List ℕ → ℕ
number_in_base base [] = 0
number_in_base base (digit ∷ higher) = digit + base * number_in_base base higher

-- the number of bytes in little-endian order
abbrev pub little_number : List ℕ → ℕ
little_number bytes = number_in_base 256 bytes

-- the number of bytes in big-endian order
abbrev pub big_number : List ℕ → ℕ
big_number bytes = little_number (reverse bytes)

-- the number of bytes in either order
abbrev pub number_of : Bool → List ℕ → ℕ
number_of is_big bytes = if is_big then big_number bytes else little_number bytes

-- the signed number of n bytes whose unsigned number is x
abbrev pub signed_number : ℕ → ℕ → ℤ
signed_number n x = if nat_lt (2 * x) (256 ^ n) then pos x else (pos x -ℤ pos (256 ^ n))

-- the number of n bytes is below 256 ^ n
abbrev pub NumberIsBounded : Type 0
NumberIsBounded = (is_big : Bool) (bytes : List ℕ) → All (λ byte. byte < 256) bytes
    → number_of is_big bytes < 256 ^ length bytes

-- lists of bytes of one length with the same number are equal
abbrev pub NumberDeterminesBytes : Type 0
NumberDeterminesBytes = (is_big : Bool) (xs ys : List ℕ) → All (λ byte. byte < 256) xs → All (λ byte. byte < 256) ys
    → length xs ≡ length ys → number_of is_big xs ≡ number_of is_big ys → xs ≡ ys
