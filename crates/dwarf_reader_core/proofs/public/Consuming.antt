-- Consuming bytes and numbers: what remains, two steps in a row, and the same step with more bytes appended.
use Rattle.dwarf_reader_core.proofs.Common.{common_steps, ◌≡◌, ◌≤◌, ℕ, ◌+◌, ◌-◌, Bool, true, false, List, [], ◌∷◌, length, take, take-take, get_or, refl, ap, ◌∙◌, arith, add-zero, add_assoc, drop-drop, length-append, length-drop, take-append-le, drop-append-le, Input, after, ◌<◌, IsTooShort, eof_here, Takes, TakesByte, TakesNumber}
use Rattle.dwarf_base_core.specs.Number.{number_of}
use Rattle.dwarf_reader_core.specs.Appended.{followed_by}
use Rattle.dwarf_reader_core.specs.Input.{end_of}

-- ---- bytes

-- consuming no bytes leaves the input as it is
pub after-zero : (input : Input) → after 0 input ≡ input
after-zero input = ap (λ (p : ℕ). let i : Input = record input { position = p } in i) (add-zero input.position)

-- consuming n bytes and then m is consuming n + m bytes
pub after-after : (m n : ℕ) (input : Input) → after m (after n input) ≡ after (n + m) input
after-after m n input = rw (drop-drop, add_assoc) refl

-- consuming bytes doesn't change the position of the end
pub end_of-after : (n : ℕ) (old : Input) → n ≤ length old.bytes → end_of (after n old) ≡ end_of old
end_of-after n old enough = omega (arith, length-drop n old.bytes)

-- after n bytes are consumed, n fewer remain
pub rest-length : (n : ℕ) (old new : Input) → Takes n old new → length new.bytes ≡ length old.bytes - n
rest-length n old new takes = ap (λ (i : Input). length i.bytes) takes.left ∙ length-drop n old.bytes

-- bytes that are consumed in two steps are consumed in one step of both lengths
pub takes-both : {m n : ℕ} {old mid new : Input} → Takes m old mid → Takes n mid new → Takes (m + n) old new
takes-both {m} {n} {old} {mid} a b = grind (arith, common_steps)

-- bytes that are consumed are consumed with more bytes appended
pub takes-more : {n : ℕ} {old new : Input} (more : List ℕ) → Takes n old new → Takes n (followed_by old more) (followed_by new more)
takes-more more takes = grind (arith, length-append, drop-append-le)

-- ---- numbers

-- a number that is consumed is consumed with more bytes appended too
pub number_more : {n x : ℕ} {old new : Input} (more : List ℕ) → TakesNumber n old x new
    → TakesNumber n (followed_by old more) x (followed_by new more)
number_more more takes = grind (arith, length-append, take-append-le, drop-append-le)

-- a number whose bytes were copied into a buffer is the number at the front of the input
pub number_taken : (n : ℕ) (old new : Input) (buf : List ℕ) (is_big : Bool) (x : ℕ)
    → Takes n old new → buf ≡ take n old.bytes → is_big ≡ new.is_big → x ≡ number_of is_big (take n buf)
    → TakesNumber n old x new
number_taken n old new buf is_big x taken filled order is = grind (arith, take-take)

-- the number of the first byte is that byte
number_of_first : (is_big : Bool) (bytes : List ℕ) → 1 ≤ length bytes
    → number_of is_big (take 1 bytes) ≡ get_or bytes 0 0
number_of_first is_big [] some = absurd (omega arith)
number_of_first true (byte ∷ bytes) some = omega arith
number_of_first false (byte ∷ bytes) some = omega arith

-- the byte that is consumed is the first one
pub byte_front : {old new : Input} {byte : ℕ} → TakesByte old byte new → byte ≡ get_or old.bytes 0 0
byte_front {old} taken = taken.encoded ∙ number_of_first old.is_big old.bytes taken.enough

-- ---- what is at the front

-- the number of the first n bytes
abbrev pub front : ℕ → Input → ℕ
front n old = number_of old.is_big (take n old.bytes)

-- if there are n bytes, their number is consumed
pub front-taken : (n : ℕ) (old : Input) → n ≤ length old.bytes → TakesNumber n old (front n old) (after n old)
front-taken n old enough = record { enough = enough; encoded = refl; left = refl }

-- if there are fewer than n bytes, that is an error
pub front-cut : (n : ℕ) (old : Input) → length old.bytes < n → IsTooShort n old (eof_here old) old
front-cut n old short = record { short = short; fault = refl; left = refl }
