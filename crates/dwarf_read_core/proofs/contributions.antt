-- Proofs about contributions, their headers and entries, and the iterators over them.
pub mod EqualHeaders
pub mod ItemLists
pub mod IteratorsEnd
pub mod Contributions
pub mod Places
pub mod Offsets
pub mod Entries
pub mod MissingBytes
pub mod SetBytes
pub mod CallsOfNext
