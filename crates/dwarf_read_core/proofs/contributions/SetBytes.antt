-- A set has at least eight bytes.
use Rattle.std.specs.Prelude.{count_by, is_err, is_ok}
use Rattle.std.proofs.lemmas.List.{length-take}
use Rattle.dwarf_base_core.specs.declared.common.Format.{Format}
use Rattle.dwarf_reader_core.specs.Headers.{Header, IsHeader}
use Rattle.dwarf_reader_core.proofs.public.MissingFields.{HasSizes}
use Rattle.dwarf_read_core.specs.Contributions.{Contribution, ContributionRead, Remaining, RepresentsContributions, contribution_size}
use Rattle.dwarf_read_core.proofs.Common.{ℕ, ◌+◌, ◌*◌, ◌≤◌, Error, Input, List, Ok, Result, arith, length}
use Rattle.dwarf_read_core.proofs.contributions.Contributions.{contribution_least, contribution_parts, initial_length_size-least}
use Rattle.dwarf_read_core.proofs.contributions.ItemLists.{items-counted}

module _ {H : Type 0} {header : Header H} {sizes : List ℕ} (is_header : IsHeader header) (greatest : ℕ)
    (has_sizes : (format : Format) → HasSizes sizes 4 (header greatest format)) where
  -- a contribution whose header has four bytes has eight
  pub eight_bytes : (offset : ℕ) (old new : Input) (s : Contribution H)
      → ContributionRead header greatest offset old (Ok s, new) → 8 ≤ contribution_size s
  eight_bytes offset old new s read =
      let parts = contribution_parts header greatest offset old s new read in
      let part = (has_sizes s.format).takes _ _ _ parts.said in
      let unit = length-take s.unit_length parts.mid.bytes in
      omega (arith, part.enough, unit, initial_length_size-least s.format)

  -- so eight times as many bytes as there are sets in a list, and one for an error, are no more than there are
  pub eight_bytes_each : (remaining : Remaining) (items : List (Result (Contribution H) Error))
      → RepresentsContributions header greatest remaining items
      → count_by is_ok items * 8 + count_by is_err items ≤ length remaining.rest.bytes
  eight_bytes_each remaining items are =
      items-counted (record {
        by = λ old new s is.
            let least = (contribution_least is_header greatest).by old new s is in
            omega (arith, least, eight_bytes old.offset old.rest new.rest s is.0);
      })
      are
