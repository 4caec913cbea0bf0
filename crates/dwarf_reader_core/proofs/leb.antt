-- Proofs about LEB128 numbers.
pub mod Bits
pub mod SignedBits
pub mod Encodings
pub mod Reading
pub mod Outcomes
pub mod Malformed
pub mod Shortest
pub mod ShortestExists
pub mod Writing
