use Rattle.std.specs.Map.{values_of}
use Rattle.dwarf_read_core.specs.Others.{at_place}
use Rattle.dwarf_read_c.specs.Laid.{laid_out}
use Rattle.dwarf_read_c.proofs.Common.{◌≡◌, ◌++◌, drop, length, map, take, attributes_in, laid_from}
use Rattle.dwarf_read_c.proofs.WrittenTables.{attributes_count}
use Rattle.dwarf_read_c.proofs.table_rows.fill_by_place.Given as goal

-- the abbreviations at the places so far and their attributes are at the front of the arrays, and what is after them is
-- unchanged
abbrev pub invariant-loop-place : goal.invariant-loop-place
invariant-loop-place l = record {
  split : map (λ p. p.now) l.yielded ++ l.place-iterator ≡ values_of l.places.entries;
  indexed : l.index ≡ length (map (λ p. p.now) l.yielded);
  counted : l.first_attribute
      ≡ attributes_count (map (at_place (laid_out l.all l.rows)) (map (λ p. p.now) l.yielded));
  placed : take l.index l.abbreviations
      ≡ laid_from 0 (map (at_place (laid_out l.all l.rows)) (map (λ p. p.now) l.yielded));
  kept : drop l.index l.abbreviations ≡ drop l.index l.initial.abbreviations;
  filled : l.attributes
      ≡ attributes_in (map (at_place (laid_out l.all l.rows)) (map (λ p. p.now) l.yielded))
      ++ drop l.first_attribute l.initial.attributes;
}
