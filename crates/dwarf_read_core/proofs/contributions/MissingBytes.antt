-- Where the bytes of entries and contributions are missing.
use Rattle.dwarf_read_core.proofs.Common.{◌≡◌, ◌∙◌, ℕ, ◌<◌, ◌≤◌, [], ◌∷◌, length, Err, Ok, Result, refl, subst, sym, ap, inl, inr, Error, Input, after, eof, eof_here, arith}
use Rattle.dwarf_base_core.specs.declared.common.Format.{Format}
use Rattle.dwarf_base_core.specs.Format.{initial_length_size}
use Rattle.dwarf_reader_core.specs.Faults.{IsCutIn}
use Rattle.dwarf_reader_core.specs.Headers.{Header}
use Rattle.dwarf_reader_core.specs.InitialLength.{HasLength, HasNoLength}
use Rattle.dwarf_reader_core.proofs.public.InitialLengths.{length_taken, lengths_exactly_one}
use Rattle.dwarf_reader_core.proofs.public.MissingFields.{cut_here, eof-same}
use Rattle.dwarf_read_core.specs.Contributions.{ContributionAtOffset, ContributionRead}
use Rattle.dwarf_reader_core.specs.Readings.{NumberRead, WordRead}

-- ---- entries

-- the bytes of an address that are missing are its own
pub address_is_cut : (width : ℕ) (input new : Input) (position : ℕ) → NumberRead width input (Err (eof position), new)
    → IsCutIn input (width ∷ []) (eof position)
address_is_cut width input new position short =
    cut_here input width [] position short.short (eof-same short.fault)

-- and so are those of a string offset
pub string_offset_is_cut : (greatest width : ℕ) (input new : Input) (position : ℕ)
    → WordRead greatest width input (Err (eof position), new) → IsCutIn input (width ∷ []) (eof position)
string_offset_is_cut greatest width input new position (inl short) = address_is_cut width input new position short
string_offset_is_cut greatest width input new position (inr over) = absurd (let fault = over.fault in grind arith)

-- ---- contributions

-- past the end of a section the bytes before the offset are missing
pub contribution_past_end : {H : Type 0} → (header : Header H) (greatest : ℕ) (section : Input) (offset : ℕ) (e : Error)
    → length section.bytes < offset → ContributionAtOffset header greatest section offset (Err e)
    → IsCutIn section (offset ∷ []) e
contribution_past_end header greatest section offset e past at = elim at.read [
  | inl short ↦ inl (record { short = short.short; fault = short.fault; left = refl })
  | inr read ↦ absurd (omega (arith, past, read.2.enough))
]

-- a result for an initial length, and what remains
abbrev Outcome : Type 0
Outcome = Result (Format × ℕ) Error × Input

-- an initial length that is there has no error
length_no_error : (greatest : ℕ) (old mid new : Input) (format : Format) (n : ℕ) (e : Error)
    → HasLength greatest old format n mid → HasNoLength greatest old e new → ⊥
length_no_error greatest old mid new format n e has none =
    let once = lengths_exactly_one greatest old in
    let one : Outcome = (Ok (format, n), mid) in
    let other : Outcome = (Err e, new) in
    let same : one ≡ other = once.2 one has ∙ sym (once.2 other none) in
    grind (arith, same)

-- two initial lengths of the same bytes are equal, and the same bytes remain
length-same : (greatest : ℕ) (old mid new : Input) (format kind : Format) (n m : ℕ)
    → HasLength greatest old format n mid → HasLength greatest old kind m new → (n ≡ m) × (mid ≡ new)
length-same greatest old mid new format kind n m has other =
    let once = lengths_exactly_one greatest old in
    let one : Outcome = (Ok (format, n), mid) in
    let two : Outcome = (Ok (kind, m), new) in
    let same : one ≡ two = once.2 one has ∙ sym (once.2 two other) in
    grind (arith, same)

-- where fewer bytes follow an initial length than it says, the error is that of these bytes
cut_after_length : {H : Type 0} → (header : Header H) (greatest offset : ℕ) (input mid new : Input) (n : ℕ)
    (format : Format) (e : Error) → HasLength greatest input format n mid → length mid.bytes < n
    → ContributionRead header greatest offset input (Err e, new) → e ≡ eof_here mid
cut_after_length header greatest offset input mid new n format e has short (inl none) =
    absurd (length_no_error greatest input mid new format n e has none)
cut_after_length header greatest offset input mid new n format e has short (inr (size, left, other, inl less)) =
    less.fault ∙ ap eof_here (sym ((length-same greatest input mid left format size.0 n size.1 has other).1))
cut_after_length header greatest offset input mid new n format e has short (inr (size, left, other, inr read)) =
    let same = length-same greatest input mid left format size.0 n size.1 has other in
    let enough = read.2.1.enough in
    absurd (grind (arith, same, enough))

-- the bytes that a contribution's initial length measures are the ones that are missing
pub contribution_is_cut : {H : Type 0} → (header : Header H) (greatest : ℕ) (section mid : Input) (offset n : ℕ)
    (format : Format) (e : Error) → offset ≤ length section.bytes → HasLength greatest (after offset section) format n mid
    → length mid.bytes < n → ContributionAtOffset header greatest section offset (Err e)
    → IsCutIn section (offset ∷ initial_length_size format ∷ n ∷ []) e
contribution_is_cut header greatest section mid offset n format e within has short at = elim at.read [
  | inl past ↦ absurd (omega (arith, past.short, within))
  | inr read ↦
      let rest = after offset section in
      let there = subst (λ i. ContributionRead header greatest offset i (Err e, at.new)) read.2.left read.3 in
      let fault = cut_after_length header greatest offset rest mid at.new n format e has short there in
      inr (
        rest,
        record { enough = within; left = refl },
        inr (mid, length_taken has, inl (record { short = short; fault = fault; left = refl })),
      )
]
