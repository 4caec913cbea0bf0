-- The number of a list of bytes: how large it can be, and that it determines the bytes.
use Rattle.std.proofs.Common.{◌/◌, ◌%◌, ◌≡◌, ℕ, ◌+◌, ◌*◌, ◌^◌, ◌<◌, ◌≤◌, true, false, List, [], ◌∷◌, length, refl, sym, ◌∙◌, arith, All}
use Rattle.std.proofs.Math.Nat.{mul-le-mul_left, mul-le-mul_right, pow-succ'}
use Rattle.std.proofs.lemmas.List.Elements.{All-head, All-tail}
use Rattle.std.proofs.lemmas.Nat.{div-mul-add, mod-mul-add}
use Rattle.dwarf_base_core.specs.Number.{big_number, little_number, NumberIsBounded, NumberDeterminesBytes}
use Rattle.dwarf_base_core.proofs.Numbers.{big_number-cons}

-- a value that a byte has
abbrev IsByte : ℕ → Type 0
IsByte b = b < 256

-- n bytes with the lowest first have a number below 256 ^ n
little_number-lt : (xs : List ℕ) → All (λ b. b < 256) xs → little_number xs < 256 ^ length xs
little_number-lt [] bytes = omega arith
little_number-lt (x ∷ xs) bytes =
    grind (arith, All-head IsByte, mul-le-mul_left, (little_number-lt xs (All-tail IsByte x xs bytes)))

-- n bytes with the highest first have a number below 256 ^ n
big_number-lt : (xs : List ℕ) → All (λ b. b < 256) xs → big_number xs < 256 ^ length xs
big_number-lt [] bytes = omega arith
big_number-lt (x ∷ xs) bytes =
    let high : x < 256 = All-head IsByte x xs bytes in
    let low = big_number-lt xs (All-tail IsByte x xs bytes) in
    let room : (x + 1) * 256 ^ length xs ≤ 256 * 256 ^ length xs = mul-le-mul_right (256 ^ length xs) (omega arith) in
    rw (big_number-cons x xs, pow-succ' 256 (length xs)) (grind arith)

-- n bytes in either order have a number below 256 ^ n
pub number_is_bounded : NumberIsBounded
number_is_bounded h xs bytes = grind (arith, big_number-lt, little_number-lt)

-- two lists of bytes of one length, with the lowest first, are equal if their numbers are
little_number-tells : (xs ys : List ℕ) → All (λ b. b < 256) xs → All (λ b. b < 256) ys → length xs ≡ length ys
    → little_number xs ≡ little_number ys → xs ≡ ys
little_number-tells [] [] of_xs of_ys long same = refl
little_number-tells [] (y ∷ ys) of_xs of_ys long same = absurd (omega arith)
little_number-tells (x ∷ xs) [] of_xs of_ys long same = absurd (omega arith)
little_number-tells (x ∷ xs) (y ∷ ys) of_xs of_ys long same =
    let low_x : x < 256 = All-head IsByte x xs of_xs in
    let low_y : y < 256 = All-head IsByte y ys of_ys in
    let heads : x ≡ y = omega arith in
    let rest : little_number xs ≡ little_number ys = omega arith in
    let tails = little_number-tells xs ys (All-tail IsByte x xs of_xs) (All-tail IsByte y ys of_ys) (omega arith) rest in
    cc

-- dividing a number by the place of its highest byte gives that byte, and the number of the rest
split_high : (x c r n : ℕ) → r < c → n ≡ x * c + r → (n / c ≡ x) × (n % c ≡ r)
split_high x c r n small is = rw is (div-mul-add x c r small, mod-mul-add x c r small)

-- two lists of bytes of one length, with the highest first, are equal if their numbers are
big_number-tells : (xs ys : List ℕ) → All (λ b. b < 256) xs → All (λ b. b < 256) ys → length xs ≡ length ys
    → big_number xs ≡ big_number ys → xs ≡ ys
big_number-tells [] [] of_xs of_ys long same = refl
big_number-tells [] (y ∷ ys) of_xs of_ys long same = absurd (omega arith)
big_number-tells (x ∷ xs) [] of_xs of_ys long same = absurd (omega arith)
big_number-tells (x ∷ xs) (y ∷ ys) of_xs of_ys long same =
    let short : length xs ≡ length ys = omega arith in
    let low_x = big_number-lt xs (All-tail IsByte x xs of_xs) in
    let low_y : big_number ys < 256 ^ length xs = rw short (big_number-lt ys (All-tail IsByte y ys of_ys)) in
    let at_y : big_number (x ∷ xs) ≡ y * 256 ^ length xs + big_number ys = same ∙ rw short (big_number-cons y ys) in
    let parts_x = split_high x (256 ^ length xs) (big_number xs) _ low_x (big_number-cons x xs) in
    let parts_y = split_high y (256 ^ length xs) (big_number ys) _ low_y at_y in
    let heads : x ≡ y = sym parts_x.0 ∙ parts_y.0 in
    let rest : big_number xs ≡ big_number ys = sym parts_x.1 ∙ parts_y.1 in
    let tails = big_number-tells xs ys (All-tail IsByte x xs of_xs) (All-tail IsByte y ys of_ys) short rest in
    cc

-- two lists of bytes of one length, in either order, are equal if their numbers are
pub number_determines_bytes : NumberDeterminesBytes
number_determines_bytes true xs ys of_xs of_ys long same = big_number-tells xs ys of_xs of_ys long same
number_determines_bytes false xs ys of_xs of_ys long same = little_number-tells xs ys of_xs of_ys long same
