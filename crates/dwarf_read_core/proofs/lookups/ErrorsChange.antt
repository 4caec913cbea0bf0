-- Some appended zero bytes change each `UnexpectedEof` of a lookup.
use Rattle.dwarf_read_core.proofs.Common.{◌≡◌, ◌≢◌, ◌∙◌, ℕ, ◌+◌, ◌≤◌, List, length, drop, slice_index, inl, inr, eof, Result, Ok, Err, IfErr, subst, arith, length-append, length-drop, ap, Input, Error, IsNotEof, followed_by}
use Rattle.std.proofs.Common.{replicate}
use Rattle.std.proofs.lemmas.List.{get_or-append-add, get_or-drop, get_or-replicate, length-replicate}
use Rattle.std.proofs.lemmas.List.Elements.{All-get_or}
use Rattle.dwarf_read_core.specs.Strings.{StringAt}
use Rattle.dwarf_read_core.specs.Words.{AddressAt, Slot, WordAt, distance, slot_offset}
use Rattle.dwarf_read_core.proofs.lookups.MissingFields.{address_is_cut, cut-short, word_is_cut}

-- some appended zero bytes change the error in place of a string
pub string_error_changes : (section : Input) (offset : ℕ) (e : Error) → StringAt section offset (Err e)
    → (count : ℕ) × (StringAt (followed_by section (replicate count 0)) offset (Err e) → ⊥)
string_error_changes section offset e is = (
  offset + 1,
  λ stays. elim stays.read [
    | inl short ↦ omega (arith, short.short, longer)
    | inr (_, rest, takes, none) ↦
        let ends = rw takes.left at none.0.none in
        All-get_or (λ b. b ≢ 0) (drop offset long.bytes) (length section.bytes) 0
        (omega (arith, longer, length-drop offset long.bytes)) ends
        (get_or-drop offset long.bytes (length section.bytes) 0
        ∙ ap (λ n. slice_index long.bytes n) (omega arith)
        ∙ get_or-append-add section.bytes zeros offset 0 ∙ get_or-replicate (offset + 1) offset 0 0 (omega arith))
  ],
)
  where
    zeros : List ℕ
    zeros = replicate (offset + 1) 0

    long : Input
    long = followed_by section zeros

    longer : length long.bytes ≡ length section.bytes + (offset + 1)
    longer = length-append section.bytes zeros ∙ ap (λ n. length section.bytes + n) (length-replicate (offset + 1) 0)

module _ (greatest : ℕ) (section : Input) (s : Slot) where
  -- the section with as many zero bytes as the slot needs
  abbrev long : Input
  long = followed_by section (replicate (slot_offset s + s.width) 0)

  -- there the slot is in the section
  reaches : slot_offset s + s.width ≤ length long.bytes
  reaches =
      let zeros : List ℕ = replicate (slot_offset s + s.width) 0 in
      let enough : length zeros ≡ slot_offset s + s.width = length-replicate (slot_offset s + s.width) 0 in
      omega (arith, length-append section.bytes zeros, enough)

  -- some appended zero bytes change a word that isn't final
  pub word_changes : (answer : Result ℕ Error) → WordAt greatest section s answer → (IfErr answer IsNotEof → ⊥)
      → (count : ℕ) × (WordAt greatest (followed_by section (replicate count 0)) s answer → ⊥)
  word_changes (Ok x) is unsettled = absurd (unsettled tt)
  word_changes (Err e) is unsettled = (
    slot_offset s + s.width,
    λ stays. unsettled (λ position same.
        let cut = word_is_cut greatest long s position (subst (λ e. WordAt greatest long s (Err e)) same stays) in
        omega (arith, cut-short long (eof position) s.base (distance s) s.width cut, reaches)),
  )

  -- and an address that isn't final
  pub address_changes : (answer : Result ℕ Error) → AddressAt greatest section s answer → (IfErr answer IsNotEof → ⊥)
      → (count : ℕ) × (AddressAt greatest (followed_by section (replicate count 0)) s answer → ⊥)
  address_changes (Ok x) is unsettled = absurd (unsettled tt)
  address_changes (Err e) is unsettled = (
    slot_offset s + s.width,
    λ stays. unsettled (λ position same.
        let cut = address_is_cut greatest long s position (subst (λ e. AddressAt greatest long s (Err e)) same stays) in
        omega (arith, cut-short long (eof position) s.base (distance s) s.width cut, reaches)),
  )
