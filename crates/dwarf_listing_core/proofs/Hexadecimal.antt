-- Bytes in hexadecimal.
use Rattle.std.proofs.lemmas.Fmt.{hex_byte as hex_byte-written}
use Rattle.dwarf_listing_core.proofs.Common.{common_steps, ◌≡◌, ℕ, ◌+◌, ◌<◌, List, [], ◌∷◌, ◌++◌, length, take, get_or, refl, arith, append_assoc, length-take, take_more, map-append, length-map, join_with_byte, hex_byte, hex_text}

-- one more piece is joined to the others after a separator
joined_more : (c : ℕ) (pieces : List (List ℕ)) (piece : List ℕ) → 0 < length pieces
    → join_with_byte c (pieces ++ piece ∷ []) ≡ join_with_byte c pieces ++ c ∷ piece
joined_more c [] piece some = absurd (omega arith)
joined_more c (x ∷ []) piece some = refl
joined_more c (x ∷ y ∷ xs) piece some = grind (arith, append_assoc, (joined_more c (y ∷ xs) piece (omega arith)))

-- the hexadecimal text of the first byte alone is the two digits of that byte
pub hex_text-first : (bytes : List ℕ) → 0 < length bytes → hex_text (take 1 bytes) ≡ hex_byte (get_or bytes 0 0)
hex_text-first [] some = absurd (omega arith)
hex_text-first (byte ∷ bytes) some = refl

-- the hexadecimal text of one byte more is the text so far, a space and the two digits of that byte
pub hex_text-next : (bytes : List ℕ) (i : ℕ) → 0 < i → i < length bytes
    → hex_text (take (i + 1) bytes) ≡ hex_text (take i bytes) ++ 32 ∷ hex_byte (get_or bytes i 0)
hex_text-next bytes i positive within =
    grind (arith, common_steps, length-map, length-take, take_more, map-append, joined_more, get_or)

-- the hexadecimal text of one byte after the other
pub ruleset hex_steps = (common_steps, hex_text-first, hex_text-next)

-- the two digits of a byte
pub ruleset hex_digits = (hex_byte-written)
