mod Common
pub mod public
pub mod leb
