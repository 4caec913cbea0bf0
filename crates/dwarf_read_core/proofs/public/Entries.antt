-- Bytes have exactly one list of addresses and one of string offsets of a width, and each number has its place.
pub use Rattle.dwarf_read_core.proofs.contributions.Entries.{addresses_exactly_one, address_at, addresses_counted}
pub use Rattle.dwarf_read_core.proofs.contributions.Entries.{string_offsets_exactly_one, string_offset_at}
pub use Rattle.dwarf_read_core.proofs.contributions.Entries.{size-positive, word_size-positive}
