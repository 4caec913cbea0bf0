pub mod UnitHeaders
pub mod UnitResults
