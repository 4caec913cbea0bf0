use Rattle.std.proofs.Common.{get_or, rules}
use Rattle.dwarf_read_c.specs.Laid.{declaration_from, laid_out}
use Rattle.dwarf_read_c.specs.declared.rows.DwarfAbbreviation.{DwarfAbbreviation}
use Rattle.dwarf_read_c.proofs.Common.{◌≡◌, length, take, refl, arith, common_steps}
use Rattle.dwarf_read_c.proofs.LaidOut.{laid_take}
use Rattle.dwarf_read_c.proofs.PlacedRows.{placed-absent, placed-more, placed-none}
use Rattle.dwarf_read_c.proofs.RisingCodes.{rising-at, rising-fresh}
use Rattle.dwarf_read_c.proofs.table_rows.places_of.Goals as goal

-- what is past the rows
abbrev none : DwarfAbbreviation
none = record { code = 0; tag = 0; has_children = 0; first_attribute = 0; attribute_count = 0 }

pub loop-place-init : goal.loop-place-init
loop-place-init c = λ attributes. rw c.new-places.ensures.empty placed-none

pub loop-place-preserved : goal.loop-place-preserved
loop-place-preserved c =
    λ attributes.
    let rows = c.args.rows.now in
    let i = c.loop-place.place in
    let row = get_or rows i none in
    let so_far = c.loop-place.invariant attributes in
    let rising = rising-at rows i none c.requires c.loop-place-test.true in
    let fresh = rising-fresh attributes 0 row.code (take i rows) rising.0 rising.1 in
    let absent = placed-absent _ _ so_far row.code fresh in
    let last : i ≡ length (laid_out attributes (take i rows)) = grind (arith, common_steps, c.loop-place-test.true) in
    rw (laid_take attributes rows i none c.loop-place-test.true)
    (placed-more _ _ so_far row.code c.insert.new.self.entries (declaration_from attributes row) i refl last absent
    (search rules) (search rules) (grind (arith, absent)) (search rules))

pub returns : goal.returns
returns c = λ attributes. grind (arith, common_steps, (c.loop-place.invariant attributes))
