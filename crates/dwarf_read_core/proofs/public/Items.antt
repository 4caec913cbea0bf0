-- Bytes have exactly one list of items, and a call returns the first.
pub use Rattle.dwarf_read_core.proofs.contributions.ItemLists.{same_of_one, TakesLeast, items-bounded, items-same}
pub use Rattle.dwarf_read_core.proofs.contributions.ItemLists.{items-exactly_one, item-first, error-first, first-is}
pub use Rattle.dwarf_read_core.proofs.contributions.ItemLists.{items-none, no_first-is, bytes-some, bytes-still_some}
