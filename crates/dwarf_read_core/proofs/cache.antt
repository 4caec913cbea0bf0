-- Proofs about the cache of tables.
pub mod EntriesAsMap
pub mod CountingOffsets
pub mod NamedOffsets
pub mod ExactlyOneCache
pub mod NoMemoryError
pub mod FaithfulToSection
pub mod FirstItem
