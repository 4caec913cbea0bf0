pub mod Addresses
pub mod CutBytes
pub mod Lengths
