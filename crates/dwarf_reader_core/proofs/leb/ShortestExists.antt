-- Every number has exactly one shortest encoding.
use Rattle.dwarf_reader_core.proofs.Common.{◌≡◌, ℕ, zero, suc, ◌+◌, ◌-◌, ◌/◌, ◌%◌, ◌<◌, List, [], ◌∷◌, arith, inl, inr, ◌⊎◌, sym, pos, negsuc, ints, Kind, unsigned64, unsigned16, signed64, Number, value, HasOne, IsShortest}
use mathlib.Core.List.{List-discrete}
use mathlib.Core.Logic.{by_cases}
use native.Mathlib.Decide.{ℕ_discrete}
use Rattle.dwarf_reader_core.proofs.leb.Shortest.{join, IsLong, IsShortest-one, IsShortest-more}

-- how far a number is from 0
abbrev size : (k : Kind) → Number k → ℕ
size unsigned64 n = n
size unsigned16 n = n
size signed64 (pos n) = n
size signed64 (negsuc n) = n

-- the lowest digit of a number, and the number above it
abbrev split : (k : Kind) → Number k → ℕ × Number k
split unsigned64 n = (n % 128, n / 128)
split unsigned16 n = (n % 128, n / 128)
split signed64 (pos n) = (n % 128, pos (n / 128))
split signed64 (negsuc n) = (127 - n % 128, negsuc (n / 128))

-- a number is its lowest digit alone, or no byte alone, and then the number above it is nearer to 0
parts : (k : Kind) (number : Number k)
    → ((split k number).0 < 128) × ((value k ((split k number).0 ∷ []) ≡ number)
    ⊎ ((number ≡ join k (split k number).0 (split k number).1) × IsLong k number
    × (size k (split k number).1 < size k number)))
parts unsigned64 n = grind arith
parts unsigned16 n = grind arith
parts signed64 (pos n) = grind (arith, ints)
parts signed64 (negsuc n) = grind (arith, ints)

-- each number has a shortest encoding, which is made from its lowest digit on
shortest-some : (k : Kind) (room : ℕ) (number : Number k) → size k number < room
    → (bytes : List ℕ) × IsShortest k number bytes
shortest-some k zero number within = absurd (omega arith)
shortest-some k (suc room) number within =
    let digit = (split k number).0 in
    let above = (split k number).1 in
    let is = parts k number in
    elim is.1 [
      | inl one ↦ (digit ∷ [], IsShortest-one k number digit is.0 one)
      | inr more ↦
          let rest = shortest-some k room above (omega (arith, more.2)) in
          ((digit + 128) ∷ rest.0, IsShortest-more k number above digit rest.0 is.0 more.1 more.0 rest.1)
    ]

-- two shortest encodings of a number are equal
shortest-same : (k : Kind) (number : Number k) (a b : List ℕ) → IsShortest k number a → IsShortest k number b → a ≡ b
shortest-same k number a b is_a is_b =
    by_cases (List-discrete ℕ_discrete a b) (λ same. same) (λ apart.
    absurd (omega (arith, is_a.shorter b is_b.encodes (λ e. apart (sym e)), is_b.shorter a is_a.encodes apart)))

-- each number has exactly one shortest encoding
pub shortest_exactly_one : (k : Kind) (number : Number k) → HasOne (IsShortest k number)
shortest_exactly_one k number =
    let some = shortest-some k (suc (size k number)) number (omega arith) in
    (some.0, some.1, λ other is. shortest-same k number other some.0 is some.1)
