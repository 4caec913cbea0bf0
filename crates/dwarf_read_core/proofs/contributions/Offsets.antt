-- A section has exactly one result for the contribution at an offset, which stays with more bytes appended.
use Rattle.dwarf_read_core.proofs.Common.{ℕ, ◌+◌, ◌≤◌, length, arith, rest-length, List, Result, Ok, Err, Bool, IfOk, IfErr, ◌⊎◌, inl, inr, Error, CloneRanOutOfMemory, Input, Takes, HasOne, IsNotEof, followed_by, Contribution}
use Rattle.dwarf_reader_core.specs.Headers.{Header, IsHeader}
use Rattle.dwarf_reader_core.proofs.public.Readings.{skip-is}
use Rattle.dwarf_read_core.specs.Contributions.{ContributionAtOffset, ContributionRead, ReadsNoContribution, contribution_size}
use Rattle.dwarf_read_core.proofs.contributions.Contributions.{contribution-decided, contribution_takes}
use Rattle.dwarf_read_core.proofs.lookups.Results.{read_at-exactly_one, read_at-more}

module _ {H : Type 0} {header : Header H} (is_header : IsHeader header) (greatest : ℕ) where
  -- a section has exactly one result for the contribution at an offset
  pub contribution_at-exactly_one : (section : Input) (offset : ℕ)
      → HasOne (ContributionAtOffset header greatest section offset)
  contribution_at-exactly_one section offset =
      read_at-exactly_one (skip-is offset).decided (contribution-decided is_header greatest offset) section

  -- the result for the contribution at an offset, unless it is an `UnexpectedEof`, stays when bytes are appended
  pub contribution_at-more : (section : Input) (offset : ℕ) (more : List ℕ) (r : Result (Contribution H) Error)
      → ContributionAtOffset header greatest section offset r → IfErr r IsNotEof
      → ContributionAtOffset header greatest (followed_by section more) offset r
  contribution_at-more section offset more r =
      read_at-more (skip-is offset).decided (contribution-decided is_header greatest offset) section r more

module _ {H X : Type 0} (header : Header H) (greatest : ℕ) (section : Input) (offset : ℕ) (view : X → Contribution H)
    {rest : Input} (new : Input) (takes : Takes offset section rest) where
  -- what a reader that skipped to an offset returns is the contribution there
  pub contribution_at-found : (r : Result X Error)
      → IfOk r (λ x. ContributionRead header greatest offset rest (Ok (view x), new))
      → IfOk r (λ x. ContributionAtOffset header greatest section offset (Ok (view x)))
  contribution_at-found (Ok x) read = record { new = new; read = (tt, rest, takes, read) }
  contribution_at-found (Err e) read = tt

  -- the error that it returns is the one there, or memory ran out
  pub contribution_at-faulty : (is_free : Bool) (r : Result X Error)
      → IfErr r (λ e. ReadsNoContribution header greatest is_free offset rest e new)
      → IfErr r (λ e. ContributionAtOffset header greatest section offset (Err e) ⊎ CloneRanOutOfMemory is_free e)
  contribution_at-faulty is_free (Ok x) lacks = tt
  contribution_at-faulty is_free (Err e) (inl lacks) = inl (record { new = new; read = inr (tt, rest, takes, lacks) })
  contribution_at-faulty is_free (Err e) (inr want) = inr want.0

-- a contribution at an offset ends within the section
pub contribution_at-within : {H : Type 0} (header : Header H) {greatest offset : ℕ} {section : Input}
    {s : Contribution H} → ContributionAtOffset header greatest section offset (Ok s)
    → offset + contribution_size s ≤ length section.bytes
contribution_at-within header {greatest} {offset} {section} {s} at =
    let rest = at.read.1 in
    let skipped = at.read.2 in
    let taken = contribution_takes header greatest offset rest s at.new at.read.3 in
    omega (arith, skipped.enough, rest-length offset section rest skipped, taken.enough)
