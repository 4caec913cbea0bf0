-- Numbers of 64 bits that are all ones, masks and tombstones of a size.
use Rattle.std.proofs.Common.{◌/◌, ◌%◌, ◌≡◌, ℕ, zero, suc, ◌+◌, ◌-◌, ◌*◌, ◌^◌, ◌<◌, ◌≤◌, bit_and, subst, sym, ap, ◌∙◌, arith}
use Rattle.std.proofs.lemmas.Nat.{and_mask, div-mul-add, mod-mul-add, pow-add, pow_pos}
use Rattle.std.specs.Int.{◌∣◌}
use Rattle.std.proofs.Math.Nat.{dvd-mul_left, mod-mod_of_dvd, pow-le-pow_right}
use Rattle.dwarf_base_core.specs.Address.{address_count}

-- the numbers of 64 bits are blocks of the addresses of a size
blocks : (size : ℕ) → size ≤ 8 → 2 ^ (64 - size * 8) * address_count size ≡ 2 ^ 64
blocks size high =
    let whole : 64 - size * 8 + 8 * size ≡ 64 = omega arith in
    sym (pow-add 2 (64 - size * 8) (8 * size)) ∙ ap (λ (n : ℕ). 2 ^ n) whole

-- a blocks of c numbers, less d numbers, are one block less and c - d numbers
last_block : (a c d : ℕ) → 0 < a → d ≤ c → a * c - d ≡ (a - 1) * c + (c - d)
last_block zero c d low small = absurd (omega arith)
last_block (suc a) c d low small = let e : suc a - 1 ≡ a = omega arith in rw e (omega arith)

-- 64 ones, shifted right until the bits of a size remain, are the last address of the size
pub all_ones : (size : ℕ) → size ≤ 8 → 18446744073709551615 / 2 ^ (64 - size * 8) ≡ address_count size - 1
all_ones size high =
    let whole : address_count size * 2 ^ (64 - size * 8) ≡ 2 ^ 64 = omega (arith, blocks size high) in
    let some = pow_pos (8 * size) in
    let step = pow_pos (64 - size * 8) in
    let split : 18446744073709551615 ≡ (address_count size - 1) * 2 ^ (64 - size * 8) + (2 ^ (64 - size * 8) - 1) =
    ap (λ (n : ℕ). n - 1) (sym whole) ∙ last_block (address_count size) (2 ^ (64 - size * 8)) 1 some step in
    ap (λ (n : ℕ). n / 2 ^ (64 - size * 8)) split
    ∙ div-mul-add (address_count size - 1) (2 ^ (64 - size * 8)) (2 ^ (64 - size * 8) - 1) (omega arith)

-- a sum of 64 bits, masked to the bits of a size, is the sum modulo the number of addresses
pub masked : (n size : ℕ) → size ≤ 8 → bit_and (n % 18446744073709551616) (address_count size - 1)
    ≡ n % address_count size
masked n size high =
    and_mask (n % 18446744073709551616) (8 * size)
    ∙ mod-mod_of_dvd (address_count size) n
    (subst (λ (m : ℕ). address_count size ∣ m) (blocks size high)
    (dvd-mul_left (address_count size) (2 ^ (64 - size * 8))))

-- the second greatest number of 64 bits, wrapped to a size, is the second greatest address of the size
pub tombstone : (size : ℕ) → 1 ≤ size → size ≤ 8 → 18446744073709551614 % address_count size ≡ address_count size - 2
tombstone size low high =
    let some = pow_pos (64 - size * 8) in
    let pair : 2 ≤ address_count size = pow-le-pow_right {n = 2} (omega arith) {i = 1} {j = 8 * size} (omega arith) in
    let split : 18446744073709551614 ≡ (2 ^ (64 - size * 8) - 1) * address_count size + (address_count size - 2) =
    ap (λ (n : ℕ). n - 2) (sym (blocks size high))
    ∙ last_block (2 ^ (64 - size * 8)) (address_count size) 2 some pair in
    ap (λ (n : ℕ). n % address_count size) split
    ∙ mod-mul-add (2 ^ (64 - size * 8) - 1) (address_count size) (address_count size - 2) (omega arith)
