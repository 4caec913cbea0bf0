-- The numbers of lists of bytes: joined lists, zeros, and the bytes that `to_le_bytes` and `to_be_bytes` make.
use Rattle.std.proofs.lemmas.Grind.{common_steps}
use Rattle.std.proofs.Common.{◌/◌, ◌%◌, ◌≡◌, ℕ, zero, suc, ◌+◌, ◌-◌, ◌*◌, ◌^◌, ◌<◌, ◌≤◌, List, [], ◌∷◌, ◌++◌, length, take, drop, replicate, reverse, refl, sym, ap, ◌∙◌, arith}
use Rattle.std.proofs.Math.Nat.{add-mul, add_assoc, div-add-mod', div-div-eq-div-mul, div-one, mod-eq_of_lt, mod-lt, mul-add-mod_self_right, mul-le-mul_right, mul_assoc, one-le-pow, pow-suc, pow-zero, pow-succ'}
use borrow.Rule.Slice.PartMut.{put_mid}
use Rattle.std.proofs.lemmas.List.{append-nil, drop-replicate, drop_all, length-append, length-replicate, take-replicate, length-reverse, reverse-append, take-append-le, take_all}
use Rattle.std.specs.Int.{byte_at, bytes_high_first, bytes_low_first}
use Rattle.dwarf_base_core.specs.Number.{big_number, little_number, number_in_base}

-- the number of joined digits is that of the first and, after their places, that of the others
pub number_in_base-append : (base : ℕ) (xs ys : List ℕ)
    → number_in_base base (xs ++ ys) ≡ number_in_base base xs + base ^ length xs * number_in_base base ys
number_in_base-append base [] ys = rw (pow-zero base) (omega arith)
number_in_base-append base (x ∷ xs) ys =
    let rest = number_in_base-append base xs ys in
    rw (rest, pow-succ' base (length xs)) (grind arith)

-- the number of zeros is 0
pub number_in_base-zeros : (base n : ℕ) → number_in_base base (replicate n 0) ≡ 0
number_in_base-zeros base zero = refl
number_in_base-zeros base (suc n) = rw (number_in_base-zeros base n) (omega arith)

-- the first byte in big-endian order is the highest of the number
pub big_number-cons : (x : ℕ) (xs : List ℕ) → big_number (x ∷ xs) ≡ x * 256 ^ length xs + big_number xs
big_number-cons x xs = grind (arith, common_steps, number_in_base-append, reverse, reverse-append, length-reverse)

-- the remainder of n by m * c is the remainder by m of its quotient by c, times c, plus its remainder by c
mod-split : (n m c : ℕ) → zero < m → zero < c → n % (m * c) ≡ n / c % m * c + n % c
mod-split n m c hm hc =
    let a = mod-lt (n / c) hm in
    let b = mod-lt n hc in
    let top : (n / c % m + 1) * c ≤ m * c = mul-le-mul_right c (omega arith) in
    let expand : (n / c % m + 1) * c ≡ n / c % m * c + 1 * c = add-mul (n / c % m) 1 c in
    let split : n ≡ n / c / m * (m * c) + (n / c % m * c + n % c) =
    sym (div-add-mod' n c)
    ∙ ap (λ (x : ℕ). x * c + n % c) (sym (div-add-mod' (n / c) m))
    ∙ ap (λ (x : ℕ). x + n % c) (add-mul (n / c / m * m) (n / c % m) c
    ∙ ap (λ (x : ℕ). x + n / c % m * c) (mul_assoc (n / c / m) m c))
    ∙ add_assoc (n / c / m * (m * c)) (n / c % m * c) (n % c) in
    ap (λ (x : ℕ). x % (m * c)) split ∙ mul-add-mod_self_right (n / c / m) (m * c) (n / c % m * c + n % c)
    ∙ mod-eq_of_lt (omega arith)

-- a byte of a number is the quotient by its place, modulo 256
byte_at-pow : (k x : ℕ) → byte_at k x ≡ x / 256 ^ k % 256
byte_at-pow k x = grind arith

-- a power of 256 is above 0
pow_pos256 : (n : ℕ) → zero < 256 ^ n
pow_pos256 n = let h = one-le-pow n 256 (omega arith) in omega arith

-- a number that is written in k bytes, the highest first, has k bytes
pub length-bytes_high_first : (k x : ℕ) → length (bytes_high_first k x) ≡ k
length-bytes_high_first zero x = refl
length-bytes_high_first (suc k) x = let rest = length-bytes_high_first k x in omega arith

-- a number that is written in k bytes, the lowest first, has k bytes
pub length-bytes_low_first : (i k x : ℕ) → length (bytes_low_first i k x) ≡ k
length-bytes_low_first i zero x = refl
length-bytes_low_first i (suc k) x = let rest = length-bytes_low_first (suc i) k x in omega arith

-- k bytes of x, the highest first, have the number x modulo 256 ^ k
pub big_number-bytes_high_first : (k x : ℕ) → big_number (bytes_high_first k x) ≡ x % 256 ^ k
big_number-bytes_high_first zero x = omega arith
big_number-bytes_high_first (suc k) x =
    let split = mod-split x 256 (256 ^ k) (omega arith) (pow_pos256 k) in
    let first = big_number-cons (byte_at k x) (bytes_high_first k x) in
    let others = big_number-bytes_high_first k x in
    rw (first, length-bytes_high_first k x, others, byte_at-pow k x, pow-succ' 256 k, split) refl

-- k bytes of x from byte i on, the lowest first, have the number x / 256 ^ i modulo 256 ^ k
pub little_number-bytes_low_first : (i k x : ℕ) → little_number (bytes_low_first i k x) ≡ x / 256 ^ i % 256 ^ k
little_number-bytes_low_first i zero x = omega arith
little_number-bytes_low_first i (suc k) x =
    let split = mod-split (x / 256 ^ i) (256 ^ k) 256 (pow_pos256 k) (omega arith) in
    let shift : x / 256 ^ suc i ≡ x / 256 ^ i / 256 = ap (λ (d : ℕ). x / d) (pow-suc 256 i)
    ∙ sym (div-div-eq-div-mul x (256 ^ i) 256) in
    rw (little_number-bytes_low_first (suc i) k x, byte_at-pow i x, shift, pow-suc 256 k, split) (grind arith)

-- a number that was written to the front of a buffer, the highest byte first, is read there
pub big_number-written : (k n : ℕ) (written rest : List ℕ) → n < 256 ^ k → written ≡ bytes_high_first k n
    → big_number (take k (written ++ rest)) ≡ n
big_number-written k n written rest fits is =
    grind (arith, length-bytes_high_first, take-append-le, take_all, big_number-bytes_high_first, mod-eq_of_lt)

-- a number that was written to the front of a buffer, the lowest byte first, is read there
pub little_number-written : (k n : ℕ) (written rest : List ℕ) → n < 256 ^ k → written ≡ bytes_low_first 0 k n
    → little_number (take k (written ++ rest)) ≡ n
little_number-written k n written rest fits is =
    let long : length written ≡ k = ap length is ∙ length-bytes_low_first 0 k n in
    let whole : take k (written ++ rest) ≡ written = take-append-le k written rest (omega arith)
    ∙ take_all k written (omega arith) in
    ap little_number (whole ∙ is) ∙ little_number-bytes_low_first 0 k n ∙ ap (λ (m : ℕ). m % 256 ^ k) (div-one n)
    ∙ mod-eq_of_lt fits

-- zeros before the highest byte don't change the number
pub big_number-zeros : (n : ℕ) (xs : List ℕ) → big_number (replicate n 0 ++ xs) ≡ big_number xs
big_number-zeros zero xs = refl
big_number-zeros (suc n) xs = big_number-cons 0 (replicate n 0 ++ xs) ∙ rw (big_number-zeros n xs) (omega arith)

-- zeros after the highest byte don't change the number
pub little_number-zeros : (n : ℕ) (xs : List ℕ) → little_number (xs ++ replicate n 0) ≡ little_number xs
little_number-zeros n xs = number_in_base-append 256 xs (replicate n 0) ∙ rw (number_in_base-zeros 256 n) (omega arith)

-- bytes that were copied to the end of eight zeros have the same number
pub big_number-padded : (bytes copied xs : List ℕ) → length xs ≤ 8 → copied ≡ xs
    → bytes ≡ put_mid (8 - length xs) (8 - (8 - length xs)) (replicate 8 0) copied
    → big_number (take 8 bytes) ≡ big_number xs
big_number-padded bytes copied xs short same is =
    let shape : put_mid (8 - length xs) (8 - (8 - length xs)) (replicate 8 0) xs ≡ replicate (8 - length xs) 0 ++ xs =
    rw (
      take-replicate {X = ℕ} (8 - length xs) 8 0 (omega arith),
      drop-replicate {X = ℕ}
          (8 - length xs) 8 0,
      drop_all {X = ℕ} (8 - (8 - length xs)) (replicate (8 - (8 - length xs)) 0)
          (omega (arith, length-replicate {A = ℕ} (8 - (8 - length xs)) 0)),
      append-nil,
    ) refl in
    let long = length-append (replicate (8 - length xs) 0) xs in
    let zeros = length-replicate {A = ℕ} (8 - length xs) 0 in
    ap (λ (b : List ℕ). big_number (take 8 b))
    (is ∙ ap (put_mid (8 - length xs) (8 - (8 - length xs)) (replicate 8 0)) same ∙ shape)
    ∙ ap big_number (take_all 8 (replicate (8 - length xs) 0 ++ xs) (omega arith))
    ∙ big_number-zeros (8 - length xs) xs

-- bytes that were copied to the front of eight zeros have the same number
pub little_number-padded : (bytes copied xs : List ℕ) → length xs ≤ 8 → copied ≡ xs
    → bytes ≡ copied ++ drop (length xs) (replicate 8 0)
    → little_number (take 8 bytes) ≡ little_number xs
little_number-padded bytes copied xs short same is =
    let shape : xs ++ drop (length xs) (replicate 8 0) ≡ xs
    ++ replicate (8 - length xs) 0 = rw (drop-replicate {X = ℕ} (length xs) 8 0) refl in
    let long = length-append xs (replicate (8 - length xs) 0) in
    let zeros = length-replicate {A = ℕ} (8 - length xs) 0 in
    ap (λ (b : List ℕ). little_number (take 8 b))
    (is ∙ ap (λ (b : List ℕ). b ++ drop (length xs) (replicate 8 0)) same ∙ shape)
    ∙ ap little_number (take_all 8 (xs ++ replicate (8 - length xs) 0) (omega arith))
    ∙ little_number-zeros (8 - length xs) xs
