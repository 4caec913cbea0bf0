use Rattle.std.proofs.Common.{◌-◌, ◌≤◌, false, length}
use Rattle.dwarf_read_core.specs.Input.{section_of}
use Rattle.dwarf_uses.specs.Callers.{AreTablesUpTo}
use Rattle.dwarf_uses.proofs.callers.all_tables.Given as goal

-- the tables so far are those up to the offset, which isn't after the section's end
abbrev pub invariant-loop-offset : goal.invariant-loop-offset
invariant-loop-offset l = record {
  tables : AreTablesUpTo (section_of l.bytes false) l.tables.items l.offset;
  within : l.offset ≤ length l.bytes;
}

abbrev pub decreases-loop-offset : goal.decreases-loop-offset
decreases-loop-offset l = length l.bytes - l.offset
