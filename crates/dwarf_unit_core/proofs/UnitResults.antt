-- What holds of a contribution that was returned holds of the unit that is made of it.
use Rattle.std.proofs.Common.{◌≡◌, ◌≤◌, Bool, ℕ, Result, Ok, Err, sym, subst, arith}
use Rattle.std.proofs.lemmas.List.{length-take}
use Rattle.dwarf_read_core.specs.Contributions.{Contribution, Remaining, RepresentsContributions, contribution_size}
use Rattle.dwarf_read_core.specs.declared.Error.{Error}
use Rattle.dwarf_read_core.specs.Input.{Input}
use Rattle.dwarf_read_core.specs.Items.{ComesFirst}
use Rattle.dwarf_read_core.specs.Lookups.{Stays, UnlessCloneRanOut}
use Rattle.dwarf_read_core.proofs.public.Contributions.{contribution_parts, initial_length_size-least}
use Rattle.dwarf_read_core.proofs.public.Items.{first-is}
use Rattle.dwarf_unit_core.specs.Fields.{unit_header}
use Rattle.dwarf_unit_core.specs.declared.header.UnitFields.{UnitFields}
use Rattle.dwarf_unit_core.proofs.UnitHeaders.{header_size-least, unit_header-size}

module _ {X Y A : Type 0} {view : X → A} {seen : Y → A} {is_free : Bool} where
  -- a lookup that returned a value returned each other that is seen as the same
  pub found-seen : {Is : Result A Error → Type 0} {x : X} {y : Y} → seen y ≡ view x
      → UnlessCloneRanOut Is view is_free (Ok x) → UnlessCloneRanOut Is seen is_free (Ok y)
  found-seen {Is = Is} same is = record { ok = subst (λ a. Is (Ok a)) (sym same) is.ok; err = tt }

  -- an error is the same, however values are seen
  pub error-seen : {Is : Result A Error → Type 0} {e : Error} → UnlessCloneRanOut Is view is_free (Err e)
      → UnlessCloneRanOut Is seen is_free (Err e)
  error-seen is = record { ok = tt; err = is.err }

  -- such a value stays when bytes are appended
  pub found-stays : {IsIn : Input → Result A Error → Type 0} {section : Input} {x : X} {y : Y} → seen y ≡ view x
      → Stays IsIn view is_free section (Ok x) → Stays IsIn seen is_free section (Ok y)
  found-stays same is = record { stays = λ settled more. found-seen same (is.stays settled more) }

  -- and so does such an error
  pub error-stays : {IsIn : Input → Result A Error → Type 0} {section : Input} {e : Error}
      → Stays IsIn view is_free section (Err e) → Stays IsIn seen is_free section (Err e)
  error-stays is = record { stays = λ settled more. error-seen (is.stays settled more) }

-- a unit that comes first has at least eleven bytes: four of its initial length, and seven of its header's other fields
pub unit-least : (code greatest : ℕ) {old new : Remaining} {s : Contribution (UnitFields ℕ)}
    → ComesFirst (RepresentsContributions (unit_header code) greatest) old (Ok s) new → 11 ≤ contribution_size s
unit-least code greatest {old} {s = s} first =
    let there = first-is (first.1 first.0.0 first.0.1) in
    let parts = contribution_parts (unit_header code) greatest old.offset old.rest s there.1.rest there.2.0 in
    let header = (unit_header-size code greatest s.format).takes _ s.entries s.header parts.said in
    let part = length-take s.unit_length parts.mid.bytes in
    omega (arith, header.enough, header_size-least s.format s.header, part, initial_length_size-least s.format)
