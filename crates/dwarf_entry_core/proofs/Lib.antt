pub mod AttributeLists
pub mod Forms
pub mod Values
pub mod Remaining
pub mod EntryLists
pub mod Skipped
