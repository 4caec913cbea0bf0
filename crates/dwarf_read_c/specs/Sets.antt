-- A set of addresses or of string offsets at an offset of a section, as C sees it.
use Rattle.std.specs.Prelude.{◌≡◌, ℕ, ◌+◌, ◌-◌, ◌/◌, ◌^◌, List, Result, Ok, length, count_by, is_ok}
use Rattle.dwarf_read_core.specs.declared.Error.{Error}
use Rattle.dwarf_read_core.specs.declared.Format.{Format}
use Rattle.dwarf_read_core.specs.Entries.{Entries, RepresentsAddresses}
use Rattle.dwarf_read_core.specs.Format.{word_size}
use Rattle.dwarf_read_core.specs.Headers.{Header}
use Rattle.dwarf_read_core.specs.Input.{Input}
use Rattle.dwarf_read_core.specs.Contributions.{Contribution, ContributionAtOffset, contribution_size}
use Rattle.dwarf_read_c.specs.declared.sets.DwarfSet.{DwarfSet}

-- a set as C sees it, with its entries and where the next set may begin. Only whole entries are counted
abbrev pub shown : {H : Type 0} → Contribution H → Entries → ℕ → DwarfSet
shown s entries next = record {
  next = next;
  unit_length = s.unit_length;
  first_entry = entries.rest.position;
  entry_count = length entries.rest.bytes / entries.width;
  word_size = word_size s.format;
  entry_size = entries.width;
}

-- what is written for C describes a set that begins at an offset, and its entries: the next set may begin where it
-- ends, and as many entries are counted as are numbers
pub record TellsSet {H : Type 0} (header : Header H) (entries_of : Contribution H → Entries) (section : Input)
    (offset : ℕ) (reported : DwarfSet) : Type 0 where
  pub s : Contribution H
  pub has : ContributionAtOffset header (2 ^ 64 - 1) section offset (Ok s)
  pub fields : reported ≡ shown s (entries_of s) (offset + contribution_size s)
  pub counted : (items : List (Result ℕ Error)) → RepresentsAddresses (entries_of s) items
      → reported.entry_count ≡ count_by is_ok items

-- a set whose header has four bytes, by its end, its length, its format and the size of its entries
abbrev pub set_to : ℕ → ℕ → Format → ℕ → DwarfSet
set_to next unit_length format entry_size = record {
  next = next;
  unit_length = unit_length;
  first_entry = next - unit_length + 4;
  entry_count = (unit_length - 4) / entry_size;
  word_size = word_size format;
  entry_size = entry_size;
}
