use Rattle.dwarf_read_c.proofs.Common.{List, take}
use Rattle.dwarf_read_core.specs.Grammar.{Specification}
use Rattle.dwarf_read_c.specs.Laid.{ArePlaced, laid_out}
use Rattle.dwarf_read_c.proofs.table_rows.places_of.Given as goal

-- the rows so far have their places, whatever their attributes are
abbrev pub invariant-loop-place : goal.invariant-loop-place
invariant-loop-place l = (attributes : List Specification) → ArePlaced (laid_out attributes (take l.place l.rows)) l.places.entries
