pub mod Common
pub mod Outcomes
pub mod public
pub mod tables
pub mod cache
pub mod contributions
pub mod lookups
