-- The fronts of a section.
use Rattle.dwarf_reader_core.proofs.Common.{◌≡◌, ℕ, ◌≤◌, length, length-take-le, Input, first}

-- a front has as many bytes as it is long
pub first_long : (n : ℕ) (section : Input) → n ≤ length section.bytes → length (first n section).bytes ≡ n
first_long n section within = length-take-le n section.bytes within
