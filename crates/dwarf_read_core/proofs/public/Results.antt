-- What follows from a result that `?` propagates, and what a lookup returned when bytes are appended.
pub use Rattle.dwarf_reader_core.proofs.public.Results.{propagated-err, propagated-is, replaced-err}
pub use Rattle.dwarf_read_core.proofs.lookups.Results.{result-propagated, lookup-stays}
