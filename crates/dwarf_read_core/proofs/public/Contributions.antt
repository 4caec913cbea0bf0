-- What is read of a contribution, and where.
pub use Rattle.dwarf_read_core.proofs.contributions.Contributions.{HasParts, contribution-decided, contribution_parts, contribution_takes, initial_length_size-least}
pub use Rattle.dwarf_read_core.proofs.contributions.Offsets.{contribution_at-within}
