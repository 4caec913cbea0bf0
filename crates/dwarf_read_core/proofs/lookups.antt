-- Proofs about lookups: strings, ranges, and numbers by an index.
pub mod Results
pub mod Strings
pub mod Ranges
pub mod Words
pub mod ErrorsChange
pub mod MissingFields
pub mod Parts
