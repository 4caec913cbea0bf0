-- The string at an offset of a section is a part of the section's bytes, followed by a zero byte.
use Rattle.dwarf_listing_core.proofs.Common.{ap, inl, inr, ◌≡◌, ◌≢◌, ◌∙◌, ℕ, ◌+◌, ◌<◌, Ok, Err, length, take, drop, sym, arith, length-take, drop-take, drop-append-le, length-drop, take_more_set, Error, OutOfMemory, Input, line}
use Rattle.std.proofs.Common.{set}
use Rattle.dwarf_read_core.specs.Strings.{StringAt}
use Rattle.dwarf_read_core.proofs.public.Lookups.{string-first}

-- the bytes of a string are those of the section from its offset on, as many as it has
pub string-is_part : (section : Input) (offset : ℕ) (found : Input) → StringAt section offset (Ok found)
    → drop offset (take (offset + length found.bytes) section.bytes) ≡ found.bytes
string-is_part section offset found string =
    drop-take offset (length found.bytes) section.bytes
    ∙ sym (ap (λ (i : Input). i.bytes) (string-first section offset found string).1)

-- the byte after a string is still in its section
pub string-ends_inside : (section : Input) (offset : ℕ) (found : Input) → StringAt section offset (Ok found)
    → offset + length found.bytes < length section.bytes
string-ends_inside section offset found string =
    omega (arith, (string-first section offset found string).2.within, length-drop offset section.bytes)

-- a string is a line once the byte after it is replaced by a line end
pub string-becomes_line : (section : Input) (offset : ℕ) (found : Input) → StringAt section offset (Ok found)
    → drop offset (take (offset + length found.bytes + 1) (set section.bytes (offset + length found.bytes) 10))
    ≡ line found.bytes
string-becomes_line section offset found string =
    grind (
      arith,
      (string-ends_inside section offset found string),
      length-take,
      take_more_set,
      drop-append-le,
      (string-is_part section offset found string),
    )

-- if a section has no string at an offset, the error isn't `OutOfMemory`
pub string_error-not_memory : (section : Input) (offset : ℕ) (e : Error) → StringAt section offset (Err e)
    → e ≢ OutOfMemory
string_error-not_memory section offset e is same = elim is.read [
  | inl short ↦ let fault = short.fault in absurd cc
  | inr (_, rest, takes, none) ↦ let fault = none.0.fault in absurd cc
]

-- where a string ends, and which error is not that of one
pub ruleset string_place = (string-ends_inside, string_error-not_memory)
