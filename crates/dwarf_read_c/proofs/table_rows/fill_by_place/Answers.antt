use Rattle.std.specs.Map.{values_of}
use Rattle.dwarf_read_core.specs.Grammar.{attribute_count, by_code_of}
use Rattle.dwarf_read_core.specs.Others.{at_place}
use Rattle.dwarf_read_c.specs.Laid.{laid_out}
use Rattle.dwarf_read_c.proofs.Common.{◌≡◌, ℕ, ◌+◌, ◌<◌, ◌≤◌, List, ◌∷◌, ◌++◌, length, map, arith, common_steps, len}
use Rattle.dwarf_read_c.proofs.PlacedRows.{placed-all, placed-turn, placed-within}
use Rattle.dwarf_read_c.proofs.WrittenTables.{attributes_count, laid_set, length-laid_from, length-values}
use Rattle.dwarf_read_c.proofs.table_rows.fill_by_place.Goals as goal
use Rattle.dwarf_read_c.proofs.table_rows.fill_by_place.Goals.{In-Some}

-- the places so far
abbrev before : In-Some → List ℕ
before c = map (λ p. p.now) c.loop-place.yielded

-- all places are those so far, this one, and those after it
parts : (c : In-Some) → before c ++ c.in-Some.place.now ∷ c.next.new.self ≡ values_of c.args.places.now.entries
parts c = grind (arith, c.loop-place.invariant.split, c.in-Some.ensures.steps)

-- there is room for the abbreviation and its attributes
turn : (c : In-Some) → let ds = laid_out c.args.all.now c.args.rows.now in
    (length (before c) < len (by_code_of ds))
    × (attributes_count (map (at_place ds) (before c)) + length (at_place ds c.in-Some.place.now).attributes
    ≤ attribute_count (by_code_of ds))
turn c = placed-turn _ _ (before c) c.next.new.self c.in-Some.place.now c.requires.placed (parts c)

pub row_at-requires-clause-within : goal.row_at-requires-clause-within
row_at-requires-clause-within c =
    let within = placed-within _ _ (before (goal.at.row_at-requires-clause-within c).In-Some) c.next.new.self c.in-Some.place.now c.requires.placed (parts (goal.at.row_at-requires-clause-within c).In-Some) in
    grind (arith, common_steps, within)

pub bounds-abbreviations-index : goal.bounds-abbreviations-index
bounds-abbreviations-index c =
    omega (arith, (turn (goal.at.bounds-abbreviations-index c).In-Some).0, c.loop-place.invariant.indexed, c.requires.room, c.loop-place.auto.abbreviations)

pub overflow_add-end : goal.overflow_add-end
overflow_add-end c = grind (
  arith,
  (turn (goal.at.overflow_add-end c).In-Some).1,
  c.loop-place.invariant.counted,
  c.requires.counted,
  c.row_at.ensures.attributes,
  c.loop-place.auto.attributes,
)

pub offset_bounds-attributes-first_attribute : goal.offset_bounds-attributes-first_attribute
offset_bounds-attributes-first_attribute c = grind (
  arith,
  (turn (goal.at.offset_bounds-attributes-first_attribute c).In-Some).1,
  c.loop-place.invariant.counted,
  c.requires.counted,
  c.loop-place.auto.attributes,
)

pub slice_bounds-fill_each-end : goal.slice_bounds-fill_each-end
slice_bounds-fill_each-end c = grind (
  arith,
  (turn (goal.at.slice_bounds-fill_each-end c).In-Some).1,
  c.loop-place.invariant.counted,
  c.requires.counted,
  c.row_at.ensures.attributes,
  c.loop-place.auto.attributes,
)

pub loop-place-preserved : goal.loop-place-preserved
loop-place-preserved c =
    let within : c.loop-place.index < length c.loop-place.abbreviations =
    omega (arith, (turn (goal.at.loop-place-preserved c).In-Some).0, c.loop-place.invariant.indexed, c.requires.room, c.loop-place.auto.abbreviations) in
    grind (arith, common_steps, laid_set, within, (parts (goal.at.loop-place-preserved c).In-Some), c.row_at.ensures.row, c.row_at.ensures.attributes)

pub returns-clause-laid : goal.returns-clause-laid
returns-clause-laid c =
    let all = placed-all _ _ (map (λ p. p.now) c.loop-place.yielded) c.requires.placed
    (grind (arith, common_steps, c.loop-place.invariant.split, c.in-None.ensures.steps)) in
    grind (arith, common_steps, length-laid_from, length-values, all)

pub returns-clause-filled : goal.returns-clause-filled
returns-clause-filled c =
    let all = placed-all _ _ (map (λ p. p.now) c.loop-place.yielded) c.requires.placed
    (grind (arith, common_steps, c.loop-place.invariant.split, c.in-None.ensures.steps)) in
    grind (arith, common_steps, length-values, all)
