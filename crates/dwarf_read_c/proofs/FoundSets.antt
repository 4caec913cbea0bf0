-- What is written for C describes the set that is at an offset.
use Rattle.std.proofs.lemmas.List.{length-take}
use Rattle.dwarf_read_core.specs.Contributions.{ContributionAtOffset, contribution_size}
use Rattle.dwarf_read_core.specs.Entries.{Entries, RepresentsAddresses}
use Rattle.dwarf_read_core.specs.Format.{initial_length_size, word_size}
use Rattle.dwarf_read_core.specs.Headers.{Header}
use Rattle.dwarf_read_core.specs.declared.Format.{Format}
use Rattle.dwarf_read_core.proofs.public.MissingFields.{HasSizes}
use Rattle.dwarf_read_core.proofs.public.Contributions.{contribution_at-within, contribution_parts}
use Rattle.dwarf_read_core.proofs.public.InitialLengths.{length_taken}
use Rattle.dwarf_read_core.proofs.public.Entries.{addresses_counted}
use Rattle.dwarf_read_c.specs.declared.sets.DwarfSet.{DwarfSet}
use Rattle.dwarf_read_c.proofs.Common.{◌≡◌, ◌∙◌, ℕ, List, Ok, ◌+◌, ◌-◌, ◌/◌, ◌<◌, ◌≤◌, ◌^◌, length, sym, ap, subst, arith, length-drop, Input, Contribution, take, TellsSet, set_to}
use Rattle.dwarf_read_c.specs.Sets.{shown}

-- what is known of a set at an offset
pub record FoundSet {H : Type 0} (header : Header H) (section : Input) (offset : ℕ) (s : Contribution H) : Type 0 where
  pub has : ContributionAtOffset header (2 ^ 64 - 1) section offset (Ok s)
  pub within : offset + initial_length_size s.format + s.unit_length ≤ length section.bytes
  pub four : 4 ≤ s.unit_length
  pub first : s.entries.position ≡ offset + initial_length_size s.format + 4
  pub rest : length s.entries.bytes ≡ s.unit_length - 4

-- a set at an offset ends within the section, and its entries are what follows the four bytes of its header
pub set_found : {H : Type 0} {header : Header H} {section : Input} {offset : ℕ} {s : Contribution H} {sizes : List ℕ}
    → ((format : Format) → HasSizes sizes 4 (header (2 ^ 64 - 1) format)) → section.position ≡ 0
    → ContributionAtOffset header (2 ^ 64 - 1) section offset (Ok s) → FoundSet header section offset s
set_found {header = header} {offset = offset} {s = s} has_sizes starts has =
    let rest = has.read.1 in
    let skipped = has.read.2 in
    let parts = contribution_parts header (2 ^ 64 - 1) offset rest s has.new has.read.3 in
    let front = length_taken parts.measured in
    let part = (has_sizes s.format).takes _ _ _ parts.said in
    let unit = length-take s.unit_length parts.mid.bytes in
    let cut = length-drop 4 (take s.unit_length parts.mid.bytes) in
    let entries = ap (λ (i : Input). length i.bytes) part.left in
    let place = ap (λ (i : Input). i.position) part.left in
    let mid = ap (λ (i : Input). i.position) front.left in
    let start = ap (λ (i : Input). i.position) skipped.left in
    record {
      has = has;
      within = omega (arith, contribution_at-within header has);
      four = omega (arith, part.enough, unit);
      first = omega (arith, starts, place, mid, start);
      rest = omega (arith, entries, cut, unit, parts.taken.enough);
    }

-- what is written for C describes a set that was found
pub set_reported : {H : Type 0} {header : Header H} {section : Input} {offset : ℕ} {s : Contribution H}
    {next : ℕ} {reported : DwarfSet} (entries_of : Contribution H → Entries) (width : ℕ) → 0 < width
    → entries_of s ≡ record { width = width; rest = s.entries } → FoundSet header section offset s
    → next ≡ offset + initial_length_size s.format + s.unit_length
    → reported ≡ set_to next s.unit_length s.format width → TellsSet header entries_of section offset reported
set_reported {offset = offset} {s} {next} {reported} entries_of width positive entries found at_end fields =
    let ends : next ≡ offset + (initial_length_size s.format + s.unit_length) = omega (arith, at_end) in
    let first : next - s.unit_length + 4 ≡ s.entries.position = omega (arith, at_end, found.first) in
    record {
      s = s;
      has = found.has;
      fields = fields ∙ (λ i. record {
        next = ends i;
        unit_length = s.unit_length;
        first_entry = first i;
        entry_count = (sym found.rest) i / width;
        word_size = word_size s.format;
        entry_size = width;
      })
          ∙ ap (λ (e : Entries). shown s e (offset + contribution_size s)) (sym entries);
      counted = λ items are.
          let count = addresses_counted (record { width = width; rest = s.entries }) items positive
          (subst (λ (e : Entries). RepresentsAddresses e items) entries are) in
          ap (λ (told : DwarfSet). told.entry_count) fields ∙ ap (λ n. n / width) (sym found.rest) ∙ sym count;
    }
