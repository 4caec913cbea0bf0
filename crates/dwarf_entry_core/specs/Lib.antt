pub mod Forms
pub mod Seen
pub mod Values
pub mod Skipped
pub mod Entries
pub mod Rows
