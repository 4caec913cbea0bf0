pub mod Addresses
pub mod NumberLaws
pub mod Numbers
pub mod SectionNames
