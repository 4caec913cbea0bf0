-- What the crates above may cite: CALLING.md says each lemma in words.
pub mod Once
pub mod Results
pub mod Consuming
pub mod Strings
pub mod Fronts
pub mod BadNumbers
pub mod InitialLengths
pub mod Headers
pub mod MissingFields
pub mod Readings
