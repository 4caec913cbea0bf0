pub mod DwAt
pub mod DwForm
pub mod DwTag
pub mod Names
pub mod Table
pub mod DwIdx
pub mod DwLang
pub mod DwLnct
