-- Contributions: the consecutive parts of a section, each with a header. Sets of string offsets (DWARF 5, 7.26) and of
-- addresses (7.27) are contributions, and so are units (7.5.1).
use Rattle.std.specs.Prelude.{◌≡◌, ℕ, ◌+◌, ◌⊎◌, Bool, List, length, Result, Ok, Err}
use Rattle.dwarf_base_core.specs.declared.common.Format.{Format}
use Rattle.dwarf_base_core.specs.declared.error.Error.{Error}
use Rattle.dwarf_base_core.specs.Format.{initial_length_size, word_size}
use Rattle.dwarf_reader_core.specs.Appended.{followed_by}
use Rattle.dwarf_reader_core.specs.Faults.{CloneRanOutOfMemory}
use Rattle.dwarf_reader_core.specs.InitialLength.{LengthRead}
use Rattle.dwarf_reader_core.specs.Input.{Input}
use Rattle.dwarf_reader_core.specs.Readings.{Given, PartRead, Reading, SkipRead, Within, ◌>>=◌}
use Rattle.dwarf_read_core.specs.Entries.{Entries}
use Rattle.dwarf_reader_core.specs.Headers.{Header}
use Rattle.dwarf_read_core.specs.Items.{AreItems}
use Rattle.dwarf_read_core.specs.Lookups.{ReadAt}

-- a contribution: its place in the section, its format and length, what its header says, and its entries, which are a
-- part of the section or a reader of it
pub record ContributionOf (H E : Type 0) : Type 0 where
  pub offset : ℕ
  pub format : Format
  pub unit_length : ℕ
  pub header : H
  pub entries : E

-- a contribution whose entries are a part of the section
abbrev pub Contribution : Type 0 → Type 0
Contribution H = ContributionOf H Input

-- a contribution whose fields are replaced by what they say, and its reader of entries by the input that represents it
abbrev pub seen_as : {H A R : Type 0} → (H → A) → (R → Input) → ContributionOf H R → Contribution A
seen_as said input s =
    record {
      offset = s.offset;
      format = s.format;
      unit_length = s.unit_length;
      header = said s.header;
      entries = input s.entries;
    }

-- a contribution whose fields are what they say
abbrev pub seen_by : {H R : Type 0} → (R → Input) → ContributionOf H R → Contribution H
seen_by input s = seen_as (λ h. h) input s

-- the contributions that remain: the offset of the first, and the bytes or a reader of them
pub record RemainingOf (E : Type 0) : Type 0 where
  pub offset : ℕ
  pub rest : E

-- the contributions that remain of the bytes of a section
abbrev pub Remaining : Type 0
Remaining = RemainingOf Input

-- the contributions that remain, whose reader is replaced by the input that represents it
abbrev pub remaining_of : {R : Type 0} → (R → Input) → RemainingOf R → Remaining
remaining_of input remaining = record { offset = remaining.offset; rest = input remaining.rest }

-- how many bytes a contribution has: those of its initial length, and as many as that says
abbrev pub contribution_size : {H : Type 0} → Contribution H → ℕ
contribution_size s = initial_length_size s.format + s.unit_length

-- the contribution at the front of an input, which begins at this offset of a section: an initial length, and as many
-- bytes as that says, which are a header and the entries
abbrev pub ContributionRead : {H : Type 0} → Header H → ℕ → ℕ → Reading (Contribution H)
ContributionRead header greatest offset = do
  size ← LengthRead greatest
  unit ← PartRead size.1
  said ← Within unit (header greatest size.0)
  Given (Ok (record {
    offset = offset;
    format = size.0;
    unit_length = size.1;
    header = said.0;
    entries = said.1;
  }))

-- no contribution is read: none is there, or memory for a reader of its part ran out, after its initial length
abbrev pub ReadsNoContribution : {H : Type 0} → Header H → ℕ → Bool → ℕ → Input → Error → Input → Type 0
ReadsNoContribution header greatest clone_is_free offset old e new =
    ContributionRead header greatest offset old (Err e, new)
    ⊎ (CloneRanOutOfMemory clone_is_free e × (size : Format × ℕ) × LengthRead greatest old (Ok size, new))

-- the result for the contribution at an offset of a section: the contribution, or the error that there is none
abbrev pub ContributionAtOffset : {H : Type 0} → Header H → ℕ → Input → ℕ → Result (Contribution H) Error → Type 0
ContributionAtOffset header greatest section offset =
    ReadAt (SkipRead offset) (ContributionRead header greatest offset) section

-- where the contributions that remain end, in bytes from the section's start
abbrev pub end_of_remaining : Remaining → ℕ
end_of_remaining remaining = remaining.offset + length remaining.rest.bytes

-- the first of the contributions that remain, and those that remain after it, which end where all end
abbrev pub FirstContribution : {H : Type 0} → Header H → ℕ → Remaining → Result (Contribution H) Error × Remaining → Type 0
FirstContribution header greatest old (result, new) =
    ContributionRead header greatest old.offset old.rest (result, new.rest)
    × (end_of_remaining new ≡ end_of_remaining old)

-- the items of the contributions that remain are consecutive contributions at their offsets, up to the end of the bytes
-- or one error
abbrev pub RepresentsContributions : {H : Type 0} → Header H → ℕ → Remaining → List (Result (Contribution H) Error)
    → Type 0
RepresentsContributions header greatest remaining items =
    AreItems (λ (h : Remaining). h.rest) (FirstContribution header greatest) remaining items

-- the items of the contributions that remain of a reader
abbrev pub RepresentsContributionsOf : {H R : Type 0} → (R → Input) → Header H → ℕ → RemainingOf R
    → List (Result (Contribution H) Error) → Type 0
RepresentsContributionsOf input header greatest remaining items =
    RepresentsContributions header greatest (remaining_of input remaining) items

-- the contributions that remain, with more bytes after them
abbrev pub followed_remaining : List ℕ → Remaining → Remaining
followed_remaining more remaining = record remaining { rest = followed_by remaining.rest more }

-- the entries of a set of addresses
abbrev pub addresses_of : Contribution ℕ → Entries
addresses_of s = record { width = s.header; rest = s.entries }

-- the entries of a set of string offsets, which are words of its format
abbrev pub string_offsets_of : Contribution (Unit {0}) → Entries
string_offsets_of s = record { width = word_size s.format; rest = s.entries }
