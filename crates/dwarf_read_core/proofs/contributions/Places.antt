-- Each contribution of a list is where its offset says.
use Rattle.dwarf_reader_core.proofs.public.Consuming.{after-after, after-zero}
use Rattle.dwarf_reader_core.proofs.public.InitialLengths.{length_taken}
use Rattle.dwarf_read_core.proofs.contributions.Contributions.{contribution_parts, contribution_takes}
use Rattle.dwarf_read_core.proofs.Common.{refl, length-drop, ◌≡◌, ◌∙◌, ℕ, zero, suc, ◌+◌, ◌-◌, ◌≤◌, List, length, Some, Result, Ok, sym, ap, subst, arith, Error, Input, Takes, after, first, rest-length, takes-both, Contribution, Remaining}
use Rattle.std.specs.Prelude.{slice_get}
use Rattle.std.proofs.Math.Nat.{add-zero}
use Rattle.std.proofs.lemmas.List.{length-take}
use Rattle.dwarf_base_core.specs.Format.{initial_length_size}
use Rattle.dwarf_reader_core.specs.Headers.{Header, IsHeader}
use Rattle.dwarf_read_core.specs.Items.{AreItems, no_items, value_first, only_error}
use Rattle.dwarf_read_core.specs.Ranges.{RangeAt}
use Rattle.dwarf_read_core.proofs.lookups.Ranges.{after-first, range_taken}
use Rattle.dwarf_read_core.proofs.lookups.Results.{read_at-reached}
use Rattle.dwarf_read_core.specs.Contributions.{FirstContribution, ContributionRead, RepresentsContributions, contribution_size, end_of_remaining}

-- a part of what remains after k bytes is a part of all, k bytes later
range_after : {k offset n : ℕ} {rest part : Input} → k ≤ length rest.bytes → RangeAt (after k rest) offset n (Ok part)
    → RangeAt rest (k + offset) n (Ok part)
range_after {k} {rest = rest} {part} enough at =
    let passed : Takes k rest (after k rest) = record { enough = enough; left = refl } in
    read_at-reached at.read.1 at.new (Ok part) (takes-both passed at.read.2) at.read.3

-- the contributions that remain when some bytes are passed
abbrev placed : Remaining → ℕ → Remaining
placed remaining far = record { offset = remaining.offset + far; rest = after far remaining.rest }

-- when none are, all remain
placed-none : (remaining : Remaining) → placed remaining 0 ≡ remaining
placed-none remaining = λ i. record { offset = add-zero remaining.offset i; rest = after-zero remaining.rest i }

-- bytes that are passed after others are passed with them
placed-after : (n : ℕ) (old new : Remaining) (far : ℕ) → Takes n old.rest new.rest
    → end_of_remaining new ≡ end_of_remaining old → placed new far ≡ placed old (n + far)
placed-after n old new far taken ends =
    let long = rest-length n old.rest new.rest taken in
    let there : new.offset + far ≡ old.offset + (n + far) = omega (arith, ends, long, taken.enough) in
    let left = ap (after far) taken.left ∙ after-after far n old.rest in
    λ i. record { offset = there i; rest = left i }

-- how a contribution is divided: its header has some bytes, and its entries are those after them
record IsDivided {H : Type 0} (rest : Input) (s : Contribution H) : Type 0 where
  of_header : ℕ
  of_entries : ℕ
  both : s.unit_length ≡ of_header + of_entries
  range : RangeAt rest (initial_length_size s.format + of_header) of_entries (Ok s.entries)

module _ {H : Type 0} {header : Header H} (is_header : IsHeader header) (greatest : ℕ) where
  -- the contributions that remain begin with this one
  abbrev BeginsWith : Remaining → Contribution H → Type 0
  BeginsWith remaining s = (new : Input) × ContributionRead header greatest remaining.offset remaining.rest (Ok s, new)

  -- the entries of a contribution are the part after its initial length and its header
  contribution_divided : (remaining : Remaining) (s : Contribution H) → BeginsWith remaining s
      → IsDivided remaining.rest s
  contribution_divided remaining s (new, read) =
      let rest = remaining.rest in
      let parts = contribution_parts header greatest remaining.offset rest s new read in
      let whole_takes = contribution_takes header greatest remaining.offset rest s new read in
      let front = initial_length_size s.format in
      let said = subst (λ i. header greatest s.format (first s.unit_length i) (Ok s.header, s.entries))
      (length_taken parts.measured).left parts.said in
      let taken = (is_header greatest s.format).decided.taken _ _ _ said in
      let inside = after front rest in
      let k = taken.0 in
      let n = s.unit_length - k in
      let long = length-take s.unit_length inside.bytes in
      let left = taken.1.left in
      let whole : k + n ≡ s.unit_length = omega (arith, taken.1.enough, long) in
      record {
        of_header = k;
        of_entries = n;
        both = sym whole;
        range = range_taken (after (front + k) rest)
            (record { enough = omega (arith, whole_takes.enough, whole); left = refl })
            (omega (arith, whole_takes.enough, whole, length-drop (front + k) rest.bytes))
            (left ∙ ap (λ m. after k (first m inside)) (sym whole) ∙ after-first k n inside
            ∙ ap (first n) (after-after k front rest));
      }

  -- a contribution of a list is at the front of what remains when some bytes are passed
  contribution_passed : {remaining : Remaining} {items : List (Result (Contribution H) Error)} (index : ℕ)
      {s : Contribution H}
      → AreItems (λ (h : Remaining). h.rest) (FirstContribution header greatest) remaining items
      → slice_get items index ≡ Some (Ok s)
      → (far : ℕ) × (far ≤ length remaining.rest.bytes) × BeginsWith (placed remaining far) s
  contribution_passed index (no_items empty) is = absurd cc
  contribution_passed {remaining} zero {s} (value_first {new = new} {x = x} some at others) is =
      let same : x ≡ s = cc in (
        0,
        omega arith,
        subst (λ r. BeginsWith r s) (sym (placed-none remaining)) (subst (BeginsWith remaining) same (new.rest, at.0)),
      )
  contribution_passed {remaining} (suc index) {s} (value_first {new = new} {x = x} some at others) is =
      let following = contribution_passed index others is in
      let n = contribution_size x in
      let taken = contribution_takes header greatest remaining.offset remaining.rest x new.rest at.0 in (
        n + following.0,
        omega (arith, following.1, taken.enough, rest-length n remaining.rest new.rest taken),
        subst (λ r. BeginsWith r s) (placed-after n remaining new following.0 taken at.1) following.2,
      )
  contribution_passed zero (only_error some at) is = absurd cc
  contribution_passed (suc index) (only_error some at) is = absurd cc

  -- a contribution of a list is where its offset says
  pub contribution_placed : (remaining : Remaining) (items : List (Result (Contribution H) Error)) (index : ℕ)
      (s : Contribution H) → RepresentsContributions header greatest remaining items
      → slice_get items index ≡ Some (Ok s)
      → (far of_header of_entries : ℕ) × (s.offset ≡ remaining.offset + far)
      × BeginsWith (record { offset = s.offset; rest = after far remaining.rest }) s
      × (s.unit_length ≡ of_header + of_entries)
      × RangeAt remaining.rest (far + initial_length_size s.format + of_header) of_entries (Ok s.entries)
  contribution_placed remaining items index s are is =
      let found = contribution_passed index are is in
      let far = found.0 in
      let begins = found.2 in
      let there = placed remaining far in
      let here = (contribution_parts header greatest there.offset there.rest s begins.0 begins.1).here in
      let parts = contribution_divided there s begins in
      let front = initial_length_size s.format in
      let place : far + (front + parts.of_header) ≡ far + front + parts.of_header = omega arith in (
        far,
        parts.of_header,
        parts.of_entries,
        here,
        subst (λ offset. BeginsWith (record { offset = offset; rest = after far remaining.rest }) s) (sym here) begins,
        parts.both,
        subst (λ n. RangeAt remaining.rest n parts.of_entries (Ok s.entries)) place (range_after found.1 parts.range),
      )
