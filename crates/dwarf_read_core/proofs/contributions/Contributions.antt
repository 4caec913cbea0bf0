-- Bytes have exactly one list of contributions, a contribution stays with more bytes appended, and what a reader reads
-- of it is it.
use Rattle.dwarf_read_core.proofs.Common.{◌≡◌, ◌≢◌, ℕ, ◌+◌, ◌-◌, ◌≤◌, List, [], ◌∷◌, length, Result, Ok, Err, sym, ap, subst, arith, Bool, ◌⊎◌, inl, inr, sum_by, length-append, Error, CloneRanOutOfMemory, IsTooShort, Input, first, Takes, HasOne, IsNotEof, ComesFirst, Contribution, Remaining, RepresentsContributions, followed_remaining, rest-length, takes-both, IfErr}
use Rattle.std.specs.Prelude.{count_by, is_err}
use Rattle.std.specs.List.{filter_map}
use Rattle.std.specs.Result.{result_ok}
use Rattle.dwarf_base_core.specs.declared.common.Format.{Format}
use Rattle.dwarf_base_core.specs.Format.{initial_length_size}
use Rattle.dwarf_reader_core.specs.InitialLength.{HasLength}
use Rattle.dwarf_reader_core.specs.Readings.{IsDecided}
use Rattle.dwarf_reader_core.proofs.public.Readings.{initial_length-is, part-is, then-decided, value-is, within-decided}
use Rattle.dwarf_reader_core.proofs.public.InitialLengths.{length_taken}
use Rattle.dwarf_reader_core.specs.Headers.{Header, IsHeader}
use Rattle.dwarf_read_core.specs.Items.{only_error}
use Rattle.dwarf_read_core.specs.Contributions.{FirstContribution, ContributionRead, ReadsNoContribution, contribution_size}
use Rattle.dwarf_read_core.proofs.contributions.ItemLists.{bytes-still_some, items-same, TakesLeast, items-exactly_one, items-bounded, item-first, error-first, first-is, items-none}

-- as many bytes fewer remain as a contribution that is taken has
pub contribution_bound : {n : ℕ} {old new : Input} → Takes n old new → length new.bytes + n ≡ length old.bytes
contribution_bound {n} {old} {new} taken = omega (arith, rest-length n old new taken, taken.enough)

-- an initial length has at least four bytes
pub initial_length_size-least : (format : Format) → 4 ≤ initial_length_size format
initial_length_size-least format = grind arith

-- the contributions that remain, by the offset of the first and the bytes
abbrev contributions_at : ℕ → Input → Remaining
contributions_at offset rest = record { offset = offset; rest = rest }

-- the contributions that remain after bytes of them are read
abbrev after_read : ℕ → Input → Input → Remaining
after_read offset old new = contributions_at (offset + (length old.bytes - length new.bytes)) new

-- ---- the parts of a contribution

-- what is read of a contribution, and where: its length, the part that the length measures, and the header there
pub record HasParts {H : Type 0} (header : Header H) (greatest offset : ℕ) (old : Input) (s : Contribution H)
    (new : Input) : Type 0 where
  pub mid : Input
  pub measured : HasLength greatest old s.format s.unit_length mid
  pub taken : Takes s.unit_length mid new
  pub said : header greatest s.format (first s.unit_length mid) (Ok s.header, s.entries)
  pub here : s.offset ≡ offset

module _ {H : Type 0} (header : Header H) (greatest offset : ℕ) (old : Input) (s : Contribution H) (new : Input)
    (read : ContributionRead header greatest offset old (Ok s, new)) where
  -- a contribution that is read has these parts
  pub contribution_parts : HasParts header greatest offset old s new
  contribution_parts = grind (arith, read)

  -- it takes as many bytes as it has
  pub contribution_takes : Takes (contribution_size s) old new
  contribution_takes = takes-both (length_taken contribution_parts.measured) contribution_parts.taken

-- what a reader returns without a part of that length is the error of the contribution, or memory ran out
pub unit_cut_read : {H : Type 0} (header : Header H) {greatest : ℕ} (offset : ℕ) {old : Input} {format : Format} {n : ℕ}
    {following : Input} → HasLength greatest old format n following → (is_free : Bool) {e : Error} {new : Input}
    → IsTooShort n following e new ⊎ (CloneRanOutOfMemory is_free e × (new ≡ following))
    → ReadsNoContribution header greatest is_free offset old e new
unit_cut_read header offset {format = format} {n = n} {following = following} measured is_free (inl short) =
    inl (inr ((format, n), following, measured, inl short))
unit_cut_read header {greatest = greatest} offset {old = old} {format = format} {n = n} measured is_free (inr want) =
    inr (want.0, (format, n), subst (HasLength greatest old format n) (sym want.1) measured)

-- ---- exactly one contribution

module _ {H : Type 0} {header : Header H} (is_header : IsHeader header) (greatest : ℕ) where
  -- the next bytes decide a contribution
  pub contribution-decided : (offset : ℕ) → IsDecided (ContributionRead header greatest offset)
  contribution-decided offset =
      then-decided (initial_length-is greatest).decided (λ size.
      then-decided (part-is size.1).decided (λ unit.
      then-decided (within-decided unit (is_header greatest size.0).decided) (λ said. (value-is _).decided)))

  -- what is read of the bytes is the first of the contributions that remain
  contribution_read-first : (offset : ℕ) (old new : Input) (r : Result (Contribution H) Error)
      → ContributionRead header greatest offset old (r, new)
      → FirstContribution header greatest (contributions_at offset old) (r, after_read offset old new)
  contribution_read-first offset old new r is =
      let taken = (contribution-decided offset).taken old new r is in
      (is, omega (arith, rest-length taken.0 old new taken.1, taken.1.enough))

  -- there is exactly one result for the first of the contributions that remain
  pub contribution_exactly_one : (remaining : Remaining) → HasOne (FirstContribution header greatest remaining)
  contribution_exactly_one remaining =
      let offset = remaining.offset in
      let old = remaining.rest in
      let one = (contribution-decided offset).one old in
      let found = contribution_read-first offset old one.0.1 one.0.0 one.1 in (
        (one.0.0, after_read offset old one.0.1),
        found,
        λ other is.
            let same = one.2 (other.0, other.1.rest) is.0 in
            let ends = found.1 in
            let left = ap (λ r. length r.1.bytes) same in
            let place : other.1.offset ≡ (after_read offset old one.0.1).offset = omega (arith, is.1, ends, left) in
            λ i. ((same i).0, contributions_at (place i) (same i).1),
      )

  -- a contribution has its initial length, and as many bytes as that says
  pub contribution_least : TakesLeast (λ (h : Remaining). h.rest) (FirstContribution header greatest) contribution_size
  contribution_least = record {
    by = λ old new s is.
        omega (arith, contribution_bound (contribution_takes header greatest old.offset old.rest s new.rest is.0));
  }

  -- so it has bytes
  contribution_size-positive : (s : Contribution H) → 1 ≤ contribution_size s
  contribution_size-positive s = omega (arith, initial_length_size-least s.format)

  -- the bytes that remain have exactly one list of contributions
  pub contributions_exactly_one : (remaining : Remaining) → HasOne (RepresentsContributions header greatest remaining)
  contributions_exactly_one = items-exactly_one contribution_exactly_one contribution_least contribution_size-positive

  -- contributions consume no more bytes than there are
  pub contributions_bounded : (remaining : Remaining) (items : List (Result (Contribution H) Error))
      → RepresentsContributions header greatest remaining items
      → sum_by contribution_size (filter_map result_ok items) + count_by is_err items ≤ length remaining.rest.bytes
  contributions_bounded remaining items are = items-bounded contribution_least are

  -- ---- appended bytes

  -- the first of the contributions that remain stays so
  first-more : (more : List ℕ) (old new : Remaining) (r : Result (Contribution H) Error)
      → FirstContribution header greatest old (r, new) → IfErr r IsNotEof
      → FirstContribution header greatest (followed_remaining more old) (r, followed_remaining more new)
  first-more more old new r is settled = (
    (contribution-decided old.offset).more old.rest new.rest r more is.0 settled,
    omega (arith, is.1, length-append old.rest.bytes more, length-append new.rest.bytes more),
  )

  -- the first contribution stays the first when bytes are appended
  pub contribution_more : (remaining : Remaining) (s : Contribution H)
      (items others : List (Result (Contribution H) Error)) (more : List ℕ)
      → RepresentsContributions header greatest remaining (Ok s ∷ items)
      → RepresentsContributions header greatest (followed_remaining more remaining) others
      → (rest : List (Result (Contribution H) Error)) × (others ≡ Ok s ∷ rest)
  contribution_more remaining s items others more are has =
      let there = first-is are in
      let first = item-first contribution_exactly_one contribution_least contribution_size-positive
      (bytes-still_some _ more there.0) (first-more more _ _ (Ok s) there.2 tt) in
      (first.0.0, items-same contribution_exactly_one has (first.1 first.0.0 first.0.1))

  -- an error, unless it is an `UnexpectedEof`, stays the only item of the contributions when bytes are appended
  pub contribution_error_more : (remaining : Remaining) (e : Error) (more : List ℕ)
      → RepresentsContributions header greatest remaining (Err e ∷ []) → IsNotEof e
      → RepresentsContributions header greatest (followed_remaining more remaining) (Err e ∷ [])
  contribution_error_more remaining e more are settled =
      let there = first-is are in
      only_error (bytes-still_some _ more there.0) (first-more more _ _ (Err e) there.2 settled)

  -- ---- what `next` returns

  module _ (offset : ℕ) (rest : Input) {at : ℕ} (new : Input) {e : Error} (is_free : Bool) (some : rest.bytes ≢ [])
      (fails : ReadsNoContribution header greatest is_free at rest e new) (same : at ≡ offset) where
    -- an error in place of a contribution is the one there, or memory ran out
    fails_there : FirstContribution header greatest (contributions_at offset rest) (Err e, after_read offset rest new)
        ⊎ CloneRanOutOfMemory is_free e
    fails_there = elim fails [
      | inl lacks ↦
          inl (contribution_read-first offset rest new (Err e)
          (subst (λ n. ContributionRead header greatest n rest (Err e, new)) same lacks))
      | inr want ↦ inr want.0
    ]

    -- it is the first item; nothing remains after either
    pub contribution_error_first : (place : ℕ) (left : Input) → left.bytes ≡ []
        → ComesFirst (RepresentsContributions header greatest) (contributions_at offset rest) (Err e)
        (contributions_at place left)
        ⊎ (CloneRanOutOfMemory is_free e × RepresentsContributions header greatest (contributions_at place left) [])
    contribution_error_first place left empty = elim fails_there [
      | inl lacks ↦ inl (error-first contribution_exactly_one some lacks empty)
      | inr want ↦ inr (want, items-none empty)
    ]

    -- it stays the only item when bytes are appended, unless it is an `UnexpectedEof`
    pub contribution_error_stays : IsNotEof e → (more : List ℕ)
        → RepresentsContributions header greatest (followed_remaining more (contributions_at offset rest)) (Err e ∷ [])
        ⊎ CloneRanOutOfMemory is_free e
    contribution_error_stays settled more = elim fails_there [
      | inl lacks ↦ inl (only_error (bytes-still_some rest.bytes more some) (first-more more _ _ (Err e) lacks settled))
      | inr want ↦ inr want
    ]

  module _ (offset place : ℕ) (rest left : Input) {at : ℕ} {s : Contribution H} (some : rest.bytes ≢ [])
      (read : ContributionRead header greatest at rest (Ok s, left))
      (same : at ≡ offset) (following : place ≡ offset + (length rest.bytes - length left.bytes)) where
    -- a contribution that is read at `at`, the offset as the code computes it, is at the offset
    is_there : FirstContribution header greatest (contributions_at offset rest) (Ok s, contributions_at place left)
    is_there = (
      subst (λ n. ContributionRead header greatest n rest (Ok s, left)) same read,
      omega (arith, following, contribution_bound (contribution_takes header greatest at rest s left read)),
    )

    -- a contribution that is read is the first item
    pub contribution_first : ComesFirst (RepresentsContributions header greatest) (contributions_at offset rest) (Ok s)
        (contributions_at place left)
    contribution_first = item-first contribution_exactly_one contribution_least contribution_size-positive some is_there

    -- a contribution that is read stays the first item when bytes are appended
    pub contribution_stays : (more : List ℕ) → ComesFirst (RepresentsContributions header greatest)
        (followed_remaining more (contributions_at offset rest)) (Ok s)
        (followed_remaining more (contributions_at place left))
    contribution_stays more =
        item-first contribution_exactly_one contribution_least contribution_size-positive
        (bytes-still_some rest.bytes more some) (first-more more _ _ (Ok s) is_there tt)
