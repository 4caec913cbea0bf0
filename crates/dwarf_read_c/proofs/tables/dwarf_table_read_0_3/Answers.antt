use Rattle.dwarf_read_c.proofs.Common.{arith, refl}
use Rattle.dwarf_read_c.proofs.WrittenTables.{rooms-enough}
use Rattle.dwarf_read_c.proofs.tables.dwarf_table_read_0_3.Goals as goal

pub returns-clause-room : goal.returns-clause-room
returns-clause-room c =
    λ rows attributes no_room.
    let full = c.put_table.ensures.full (grind arith) in
    grind (arith, rooms-enough, rows, attributes, full)

pub returns-clause-read : goal.returns-clause-read
returns-clause-read c =
    let answer = c.in-Ok.ensures.answer in
    λ ok.
    let filled = c.put_table.ensures.filled ok in
    (c.in-Ok.found.0, answer.0, (c.in-Ok.found.1, answer.1, c.put_table.ensures.measured), filled.0, filled.1)

pub returns-clause-full : goal.returns-clause-full
returns-clause-full c =
    let answer = c.in-Ok.ensures.answer in
    λ no_room.
    let full = c.put_table.ensures.full (grind arith) in
    (c.in-Ok.found.0, answer.0, (c.in-Ok.found.1, answer.1, c.put_table.ensures.measured), full.1, refl)
