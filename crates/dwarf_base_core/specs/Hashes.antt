-- The bytes that an offset feeds a hasher determine its number. No public clause about a result cites this file.
use Rattle.std.specs.Prelude.{◌≡◌, ◌↔◌, ◌-◌, ◌^◌, ◌<◌, ◌≤◌, ℕ, List, [], ◌∷◌}
use Rattle.std.specs.Hash.{le_bytes}
use Rattle.std.specs.Int.{from_le_bytes, w32, w64}
use Rattle.std.proofs.Common.{ap, sym, ◌∙◌, arith}
use Rattle.std.proofs.lemmas.Nat.{from_le_bytes-to_le_bytes_4, from_le_bytes-to_le_bytes_8}

-- equal lists of one item have equal items
only : (xs ys : List ℕ) → (xs ∷ []) ≡ (ys ∷ []) → xs ≡ ys
only xs ys e = cc

-- if the number can be read from its bytes, two numbers have equal bytes exactly if they are equal
same_if_read : (bytes : ℕ → List ℕ) (read : List ℕ → ℕ) (x y : ℕ) → read (bytes x) ≡ x → read (bytes y) ≡ y
    → (bytes x ∷ [] ≡ bytes y ∷ []) ↔ (x ≡ y)
same_if_read bytes read x y of_x of_y =
    ((λ same. sym of_x ∙ ap read (only _ _ same) ∙ of_y), (λ same. ap (λ (n : ℕ). bytes n ∷ []) same))

-- two numbers of 32 bits feed the same bytes exactly if they are equal
pub same_writes_32 : (x y : ℕ) → x ≤ 2 ^ 32 - 1 → y ≤ 2 ^ 32 - 1 → (le_bytes 4 x ∷ [] ≡ le_bytes 4 y ∷ []) ↔ (x ≡ y)
unfolding le_bytes
same_writes_32 x y high_x high_y =
    let fits_x : x < 2 ^ 32 = omega arith in
    let fits_y : y < 2 ^ 32 = omega arith in
    same_if_read (le_bytes 4) (from_le_bytes w32) x y (from_le_bytes-to_le_bytes_4 x fits_x)
    (from_le_bytes-to_le_bytes_4 y fits_y)

-- two numbers of 64 bits feed the same bytes exactly if they are equal
pub same_writes_64 : (x y : ℕ) → x ≤ 2 ^ 64 - 1 → y ≤ 2 ^ 64 - 1 → (le_bytes 8 x ∷ [] ≡ le_bytes 8 y ∷ []) ↔ (x ≡ y)
unfolding le_bytes
same_writes_64 x y high_x high_y =
    let fits_x : x < 2 ^ 64 = omega arith in
    let fits_y : y < 2 ^ 64 = omega arith in
    same_if_read (le_bytes 8) (from_le_bytes w64) x y (from_le_bytes-to_le_bytes_8 x fits_x)
    (from_le_bytes-to_le_bytes_8 y fits_y)
