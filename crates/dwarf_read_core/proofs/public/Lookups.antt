-- A section has exactly one string, range, word and address at a place, which stays when bytes are appended.
pub use Rattle.dwarf_read_core.proofs.lookups.Strings.{strings_exactly_one, string_more, string-first}
pub use Rattle.dwarf_read_core.proofs.lookups.Ranges.{ranges_exactly_one, range_more}
pub use Rattle.dwarf_read_core.proofs.lookups.Words.{words_exactly_one, word_more, addresses_exactly_one, address_more}
