-- What the crates above may cite.
pub mod Search
