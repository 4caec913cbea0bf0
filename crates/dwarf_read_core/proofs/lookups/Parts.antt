-- Strings and words are parts of their section, and so is each part of a part.
use Rattle.dwarf_read_core.proofs.Common.{◌≡◌, ◌∙◌, ℕ, ◌+◌, ◌≤◌, length, Ok, refl, sym, ap, arith, slice_index, length-drop, length-take-le, take_all, Input, after, first, rest-length, takes-both, Takes, TakesNumber}
use Rattle.dwarf_reader_core.proofs.public.Consuming.{after-zero}
use Rattle.std.proofs.lemmas.List.{get_or-drop}
use Rattle.dwarf_base_core.specs.Number.{number_of}
use Rattle.dwarf_read_core.specs.Ranges.{RangeAt}
use Rattle.dwarf_read_core.specs.Strings.{StringAt}
use Rattle.dwarf_read_core.specs.Words.{PlaceRead, Slot, slot_offset}
use Rattle.dwarf_read_core.proofs.lookups.Ranges.{first-nested, range_taken}
use Rattle.dwarf_read_core.proofs.lookups.Strings.{string-first}
use Rattle.dwarf_read_core.proofs.lookups.Words.{place_parts}

-- the part from the start on that has the section's length is the section
pub range_whole : (section : Input) → RangeAt section 0 (length section.bytes) (Ok section)
range_whole section =
    range_taken section (record { enough = omega arith; left = sym (after-zero section) }) (omega arith)
    (grind (arith, take_all))

-- a part of a part is a part, at the sum of their offsets
pub range_nested : (section part inner : Input) (offset size at n : ℕ) → RangeAt section offset size (Ok part)
    → RangeAt part at n (Ok inner) → RangeAt section (offset + at) n (Ok inner)
range_nested section part inner offset size at n outer nested =
    let (_, rest, takes, is) = outer.read in
    let (_, mid, further, same) = nested.read in
    let long : length part.bytes ≡ size =
    ap (λ (i : Input). length i.bytes) is.0 ∙ length-take-le size rest.bytes is.1.enough in
    let fits : at + n ≤ size = omega (arith, further.enough, same.1.enough, rest-length at part mid further, long) in
    let there : Takes at rest (after at rest) = record { enough = omega (arith, fits, is.1.enough); left = refl } in
    range_taken (after at rest) (takes-both takes there) (omega (arith, fits, is.1.enough, length-drop at rest.bytes))
    (same.0 ∙ ap (first n) (further.left ∙ ap (after at) is.0) ∙ first-nested at n size rest fits)

-- a string is the part at its offset that has its length, and a zero byte follows
pub string_part : (section : Input) (offset : ℕ) (string : Input) → StringAt section offset (Ok string)
    → RangeAt section offset (length string.bytes) (Ok string)
    × (slice_index section.bytes (offset + length string.bytes) ≡ 0)
string_part section offset string has =
    let (enough, content, ends) = string-first section offset string has in (
      range_taken (after offset section) (record { enough = enough; left = refl }) (omega (arith, ends.within)) content,
      sym (get_or-drop offset section.bytes (length string.bytes) 0) ∙ ends.here,
    )

-- the number that is read at the place of a slot is that of the part there
pub number_part : (greatest : ℕ) {section rest new : Input} (s : Slot) {x : ℕ}
    → PlaceRead greatest s section (Ok tt, rest) → TakesNumber s.width rest x new
    → (part : Input) × RangeAt section (slot_offset s) s.width (Ok part) × (x ≡ number_of part.is_big part.bytes)
number_part greatest {rest = rest} s place number =
    let (_, based, counted, far) = place_parts greatest s place in
    (first s.width rest, range_taken rest (takes-both based far) number.enough refl, number.encoded)
