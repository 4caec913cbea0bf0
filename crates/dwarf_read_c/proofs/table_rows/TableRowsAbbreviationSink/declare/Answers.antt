use mir.Val.{bool_byte}
use Rattle.std.specs.FinMap.{contains_key}
use Rattle.dwarf_read_core.specs.Equality.{HasValueByForm}
use Rattle.dwarf_read_core.specs.Grammar.{by_code_of, Specification}
use Rattle.dwarf_read_c.specs.Laid.{ArePlaced, laid_out, last_code}
use Rattle.dwarf_read_c.specs.Tables.{bit_of}
use Rattle.dwarf_read_c.specs.declared.rows.DwarfAbbreviation.{DwarfAbbreviation}
use Rattle.std.proofs.Common.{All}
use Rattle.dwarf_read_c.proofs.Common.{◌≡◌, ◌<◌, Bool, true, false, List, [], ◌∷◌, ◌++◌, refl, length, arith, abbreviation_of, Declaration}
use Rattle.dwarf_read_c.proofs.PlacedRows.{kept-inserted, kept-more, placed-some}
use Rattle.dwarf_read_c.proofs.RisingCodes.{rising-fresh}
use Rattle.dwarf_read_c.proofs.table_rows.TableRowsAbbreviationSink.declare.Goals as goal
use Rattle.dwarf_read_c.proofs.table_rows.TableRowsAbbreviationSink.declare.Goals.{then-is_empty+then-is_above+in_ok-extend_from_slice, else-is_empty+in_ok-extend_by_place}

-- the byte of a `bool` is its bit
byte-bit : (b : Bool) → bool_byte b ≡ bit_of b
byte-bit true = refl
byte-bit false = refl

-- what was kept: attributes, rows and declarations
abbrev attributes : goal.After-push_reserved → List Specification
attributes c = c.self.inside.attributes.items

abbrev rows : goal.After-push_reserved → List DwarfAbbreviation
rows c = c.self.inside.rows.items

abbrev declared : goal.After-push_reserved → List Declaration
declared c = laid_out (attributes c) (rows c)

-- the rows stay until one is added
same-rows : (c : goal.After-push_reserved) → c.if-is_empty.self-inside.rows.items ≡ rows c
same-rows c = elim c.if-is_empty.branch [
  | then-is_empty+then-is_above+in_ok-extend_from_slice w ↦ grind (arith, w.self-inside-is, c.make_room.ensures.rows)
  | else-is_empty+in_ok-extend_by_place w ↦ grind (arith, w.self-inside-is, c.make_room.ensures.rows)
]

-- the attributes of the declaration are after the others
more-attributes : (c : goal.After-push_reserved) → c.if-is_empty.self-inside.attributes.items
    ≡ attributes c ++ c.args.declaration.now.attributes
more-attributes c = elim c.if-is_empty.branch [
  | then-is_empty+then-is_above+in_ok-extend_from_slice w ↦ grind (
    arith,
    w.self-inside-is,
    w.in_ok-extend_from_slice.ensures.items,
    c.make_room.ensures.attributes,
    c.attributes-attributes.ensures.list,
  )
  | else-is_empty+in_ok-extend_by_place w ↦ grind (
    arith,
    w.self-inside-is,
    w.in_ok-extend_by_place.ensures.extended,
    c.make_room.ensures.attributes,
    c.attributes-attributes.ensures.list,
  )
]

-- its row is after the others
more-rows : (c : goal.After-push_reserved) → c.push_reserved.new.self.items
    ≡ rows c ++ abbreviation_of (length (attributes c)) c.args.declaration.now ∷ []
more-rows c = grind (arith, byte-bit, same-rows c, c.push_reserved.ensures.items)

-- its code is new
new : (c : goal.After-push_reserved) → contains_key (by_code_of (declared c)) c.args.declaration.now.code ≡ false
new c = elim c.if-is_empty.branch [
  | then-is_empty+then-is_above+in_ok-extend_from_slice w ↦
      let rising = c.self.invariant.rising (grind (arith, w.if-is_empty)) in
      let fresh = rising-fresh (attributes c) 0 c.args.declaration.now.code (rows c) rising in
      grind (arith, fresh, w.is_above.ensures, w.if-is_above, c.make_room.ensures.rows, c.code-code.ensures.code)
  | else-is_empty+in_ok-extend_by_place w ↦ grind (
    arith,
    w.in_ok-extend_by_place.ensures.new,
    c.make_room.ensures.rows,
    c.make_room.ensures.attributes,
    c.code-code.ensures.code,
  )
]

-- without places, the codes have risen, and this one is above them
above : (c : goal.After-push_reserved) → length c.if-is_empty.self-inside.places.entries ≡ 0
    → (length c.self.inside.places.entries ≡ 0) × (last_code 0 (rows c) < c.args.declaration.now.code)
above c none = elim c.if-is_empty.branch [
  | then-is_empty+then-is_above+in_ok-extend_from_slice w ↦ grind (
    arith,
    none,
    w.self-inside-is,
    w.is_above.ensures,
    w.if-is_above,
    c.make_room.ensures.rows,
    c.code-code.ensures.code,
  )
  | else-is_empty+in_ok-extend_by_place w ↦
      let placed = w.in_ok-extend_by_place.ensures.placed c.args.declaration.now in
      absurd (grind (arith, placed-some, none, w.self-inside-is, placed, c.code-code.ensures.code))
]

-- with places, its code has one too
placed : (c : goal.After-push_reserved) → 0 < length c.if-is_empty.self-inside.places.entries
    → ArePlaced (declared c ++ c.args.declaration.now ∷ []) c.if-is_empty.self-inside.places.entries
placed c some = elim c.if-is_empty.branch [
  | then-is_empty+then-is_above+in_ok-extend_from_slice w ↦
      absurd (grind (arith, some, w.self-inside-is, w.if-is_empty))
  | else-is_empty+in_ok-extend_by_place w ↦
      let placed = w.in_ok-extend_by_place.ensures.placed c.args.declaration.now in
      grind (
        arith,
        placed,
        w.self-inside-is,
        c.make_room.ensures.rows,
        c.make_room.ensures.attributes,
        c.code-code.ensures.code,
      )
]

pub invariant_of-self-2 : goal.invariant_of-self-2
invariant_of-self-2 c =
    let valued : All HasValueByForm c.args.declaration.now.attributes = grind (arith, c.attributes-attributes.ensures) in
    let kept = kept-more (attributes c) (rows c) _ _ c.args.declaration.now c.self.invariant (new c) valued (above c) (placed c) in
    grind (arith, kept, more-rows c, more-attributes c)

pub returns-clause-new : goal.returns-clause-new
returns-clause-new c = grind (arith, new c)

pub returns-clause-ok : goal.returns-clause-ok
returns-clause-ok c =
    let inserted = kept-inserted (attributes c) (rows c) _ c.args.declaration.now c.self.invariant (new c) in
    grind (arith, inserted, more-rows c, more-attributes c)
