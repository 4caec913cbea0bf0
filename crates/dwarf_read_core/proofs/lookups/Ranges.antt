-- A range is the first bytes after an offset, and a section has one result there.
use Rattle.dwarf_read_core.proofs.Common.{◌≡◌, ◌∙◌, refl, sym, ◌+◌, ◌-◌, ◌≤◌, ℕ, List, length, Ok, ap, arith, followed_by, Input, first, after, Takes, HasOne, drop}
use Rattle.std.proofs.lemmas.List.{drop-take, take-take}
use Rattle.dwarf_reader_core.proofs.public.Readings.{part-is, skip-is}
use Rattle.dwarf_read_core.proofs.lookups.Results.{read_at-exactly_one, read_at-more, read_at-reached}
use Rattle.dwarf_read_core.specs.Ranges.{RangeAt}

-- the first bytes after an offset are the range there, if the section has as many
pub range_taken : {section part : Input} {offset size : ℕ} (rest : Input) → Takes offset section rest
    → size ≤ length rest.bytes → part ≡ first size rest → RangeAt section offset size (Ok part)
range_taken {part = part} {size = size} rest takes enough is =
    read_at-reached rest (after size rest) (Ok part) takes (is, record { enough = enough; left = refl })

-- what remains of the first bytes after some of them are the first of those that remain
pub after-first : (k n : ℕ) (input : Input) → after k (first (k + n) input) ≡ first n (after k input)
after-first k n input = ap (λ (l : List ℕ). let i : Input = record (after k input) { bytes = l } in i) (drop-take k n input.bytes)

-- the first bytes after some of the first bytes are those after as many of all
pub first-nested : (at n size : ℕ) (input : Input) → at + n ≤ size
    → first n (after at (first size input)) ≡ first n (after at input)
first-nested at n size input fits =
    let m = size - at in
    let whole : at + m ≡ size = omega (arith, fits) in
    let shorter = take-take n m (drop at input.bytes) (omega (arith, fits)) in
    ap (λ k. first n (after at (first k input))) (sym whole) ∙ ap (first n) (after-first at m input)
    ∙ ap (λ (l : List ℕ). let i : Input = record (after at input) { bytes = l } in i) shorter

-- a section has exactly one part or error at an offset
pub ranges_exactly_one : (section : Input) (offset size : ℕ) → HasOne (RangeAt section offset size)
ranges_exactly_one section offset size = read_at-exactly_one (skip-is offset).decided (part-is size).decided section

-- a part of a section is still there when more bytes follow
pub range_more : (section : Input) (offset size : ℕ) (part : Input) (more : List ℕ)
    → RangeAt section offset size (Ok part) → RangeAt (followed_by section more) offset size (Ok part)
range_more section offset size part more is =
    read_at-more (skip-is offset).decided (part-is size).decided section (Ok part) more is tt
