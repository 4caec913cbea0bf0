-- What the crates above may cite, that of `dwarf_reader_core` included: CALLING.md says each lemma in words.
pub use Rattle.dwarf_reader_core.proofs.public.Once
pub use Rattle.dwarf_reader_core.proofs.public.Consuming
pub use Rattle.dwarf_reader_core.proofs.public.Strings
pub use Rattle.dwarf_reader_core.proofs.public.Fronts
pub use Rattle.dwarf_reader_core.proofs.public.BadNumbers
pub use Rattle.dwarf_reader_core.proofs.public.InitialLengths
pub use Rattle.dwarf_reader_core.proofs.public.Headers
pub use Rattle.dwarf_reader_core.proofs.public.MissingFields
pub use Rattle.dwarf_reader_core.proofs.public.Readings
pub mod Results
pub mod Items
pub mod Contributions
pub mod Entries
pub mod Lookups
pub mod Tables
