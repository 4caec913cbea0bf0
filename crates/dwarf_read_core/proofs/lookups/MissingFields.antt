-- Each `UnexpectedEof` is that of the first of consecutive fields that isn't there whole.
use Rattle.dwarf_read_core.proofs.Common.{◌≡◌, ℕ, ◌+◌, ◌-◌, ◌<◌, ◌≤◌, true, [], ◌∷◌, List, length, Ok, Err, refl, subst, arith, inl, inr, eof, is_number_size, Error, Input, IsTooShort, Answer, rest-length}
use Rattle.dwarf_reader_core.specs.Faults.{IsCutIn}
use Rattle.dwarf_reader_core.specs.Readings.{Reading}
use Rattle.dwarf_reader_core.proofs.public.MissingFields.{cut_here, cut_third}
use Rattle.dwarf_read_core.specs.Lookups.{ReadAt}
use Rattle.dwarf_read_core.specs.Ranges.{RangeAt}
use Rattle.dwarf_read_core.specs.Strings.{StringAt}
use Rattle.dwarf_read_core.specs.Words.{AddressAt, PlaceRead, Slot, WordAt, distance, slot_offset}
use Rattle.dwarf_read_core.proofs.lookups.Results.{read_at-missed, read_at-reached}
use Rattle.dwarf_read_core.proofs.lookups.Words.{distance-counted, place_parts}
use Rattle.dwarf_read_core.proofs.tables.EndFaults.{at_start, at_end, eof_ends}

-- ---- fields

-- an input is shorter than three fields of which one is cut
pub cut-short : (input : Input) (e : Error) (one two three : ℕ) → IsCutIn input (one ∷ two ∷ three ∷ []) e
    → length input.bytes < one + two + three
cut-short input e one two three (inl short) = omega (arith, short.short)
cut-short input e one two three (inr (rest, takes, inl short)) =
    omega (arith, short.short, rest-length one input rest takes)
cut-short input e one two three (inr (rest, takes, inr (left, more, inl short))) =
    omega (arith, short.short, rest-length one input rest takes, rest-length two rest left more)
cut-short input e one two three (inr (rest, takes, inr (left, more, inr cut))) = absurd cut.2

-- ---- tables

-- a table reads the bytes after the offset one by one to the end, and misses one there
pub table_cut : (section : Input) (offset position : ℕ) → Answer section offset (Err (eof position))
    → IsCutIn section (offset ∷ (length section.bytes - offset) ∷ 1 ∷ []) (eof position)
table_cut section offset position is =
    elim (eof_ends section offset position is) [
      | at_start past there ↦ cut_here section offset ((length section.bytes - offset) ∷ 1 ∷ []) position past there
      | at_end within there ↦
          cut_third section offset (length section.bytes - offset) 1 [] position (omega (arith, within))
          (omega (arith, within)) (omega (arith, there, within))
    ]

-- ---- strings and ranges

-- missing bytes are those of the field there
cut_there : {size : ℕ} {input new : Input} {e : Error} (sizes : List ℕ) → IsTooShort size input e new
    → IsCutIn input (size ∷ sizes) e
cut_there sizes short = inl (record { short = short.short; fault = short.fault; left = refl })

-- a string is cut in its offset, or needs more bytes than there are
pub string_cut : (section : Input) (offset : ℕ) (e : Error) → StringAt section offset (Err e)
    → IsCutIn section (offset ∷ (length section.bytes + 1) ∷ []) e
string_cut section offset e is = elim is.read [
  | inl short ↦ cut_there ((length section.bytes + 1) ∷ []) short
  | inr (_, rest, takes, none) ↦
      let short : length rest.bytes < length section.bytes + 1 =
      omega (arith, rest-length offset section rest takes) in
      inr (rest, takes, inl (record { short = short; fault = none.0.fault; left = refl }))
]

-- a range is cut in its offset or in its size
pub range_cut_in : (section : Input) (offset size : ℕ) (e : Error) → RangeAt section offset size (Err e)
    → IsCutIn section (offset ∷ size ∷ []) e
range_cut_in section offset size e is = elim is.read [
  | inl short ↦ cut_there (size ∷ []) short
  | inr (_, rest, takes, short) ↦ inr (rest, takes, cut_there [] short)
]

-- and one that is cut there isn't in the section
pub cut_range : (section : Input) (offset size : ℕ) (e : Error) → IsCutIn section (offset ∷ size ∷ []) e
    → RangeAt section offset size (Err e)
cut_range section offset size e (inl short) = read_at-missed section short
cut_range section offset size e (inr (rest, takes, inl short)) = read_at-reached rest rest (Err e) takes short
cut_range section offset size e (inr (rest, takes, inr (more, taken, none))) = absurd none

-- ---- words and addresses

module _ (greatest : ℕ) (section : Input) (s : Slot) where
  -- a slot is cut in its base or in its distance, which is then an offset
  place_cut : {new : Input} {position : ℕ} (sizes : List ℕ) → PlaceRead greatest s section (Err (eof position), new)
      → IsCutIn section (s.base ∷ distance s ∷ sizes) (eof position)
      × (s.base ≤ length section.bytes → distance s ≤ greatest)
  place_cut sizes (inl short) = (cut_there (distance s ∷ sizes) short, λ based. absurd (omega (arith, short.short)))
  place_cut sizes (inr (_, rest, takes, inl over)) = absurd (grind arith)
  place_cut {position = position} sizes (inr (_, rest, takes, inr (_, mid, passed, short))) =
      let counted = distance-counted greatest s passed in
      let there = subst (λ i. IsCutIn i (distance s ∷ sizes) (eof position)) counted.1 (cut_there sizes short) in
      (inr (rest, takes, there), λ based. counted.0)

  -- what is cut at its place is cut after base and distance
  cut_at_place : {rest : Input} {e : Error} (sizes : List ℕ) → PlaceRead greatest s section (Ok tt, rest)
      → IsCutIn rest sizes e → IsCutIn section (s.base ∷ distance s ∷ sizes) e
  cut_at_place {rest} sizes place cut =
      let parts = place_parts greatest s place in
      inr (parts.0, parts.1, inr (rest, parts.3, cut))

  -- where the bytes of a word are cut
  pub word_is_cut : (position : ℕ) → WordAt greatest section s (Err (eof position))
      → IsCutIn section (s.base ∷ distance s ∷ s.width ∷ []) (eof position)
  word_is_cut position is = elim is.read [
    | inl none ↦ (place_cut (s.width ∷ []) none).0
    | inr (_, rest, place, inl short) ↦ cut_at_place (s.width ∷ []) place (cut_there [] short)
    | inr (_, rest, place, inr over) ↦ absurd (let fault = over.fault in grind arith)
  ]

  -- and those of an address
  pub address_is_cut : (position : ℕ) → AddressAt greatest section s (Err (eof position))
      → IsCutIn section (s.base ∷ distance s ∷ s.width ∷ []) (eof position)
  address_is_cut position is = elim is.read [
    | inl none ↦ (place_cut (s.width ∷ []) none).0
    | inr (_, rest, place, inl other) ↦ absurd (let fault = other.fault in grind arith)
    | inr (_, rest, place, inr short) ↦ cut_at_place (s.width ∷ []) place (cut_there [] short.1)
  ]

  -- ---- errors that need no bytes

  -- bytes at a slot are missing only if its distance is an offset
  pub slot_counted : (At : Reading ℕ) (position : ℕ) → ReadAt (PlaceRead greatest s) At section (Err (eof position))
      → s.base ≤ length section.bytes → distance s ≤ greatest
  slot_counted At position is = elim is.read [
    | inl none ↦ (place_cut [] none).1
    | inr (_, rest, place, error) ↦ λ based. (place_parts greatest s place).2
  ]

  -- and those of an address only if its width is a size of addresses
  pub address_sized : (position : ℕ) → AddressAt greatest section s (Err (eof position))
      → slot_offset s ≤ length section.bytes → is_number_size s.width ≡ true
  address_sized position is within = elim is.read [
    | inl none ↦ absurd (omega (arith, cut-short section (eof position) s.base (distance s) 0 (place_cut (0 ∷ []) none).0, within))
    | inr (_, rest, place, inl other) ↦ absurd (let fault = other.fault in grind arith)
    | inr (_, rest, place, inr short) ↦ short.0
  ]
