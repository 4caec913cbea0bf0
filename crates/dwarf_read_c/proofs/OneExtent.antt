-- A contribution at an offset has exactly one extent, which lies within its section.
use Rattle.std.specs.Prelude.{⊤}
use Rattle.dwarf_read_core.specs.declared.Format.{Format}
use Rattle.dwarf_read_core.specs.Format.{initial_length_size}
use Rattle.dwarf_read_core.specs.InitialLength.{LengthRead}
use Rattle.dwarf_read_core.specs.Input.{Takes}
use Rattle.dwarf_read_core.specs.Once.{HasOne}
use Rattle.dwarf_read_core.specs.Readings.{IsDecided}
use Rattle.dwarf_read_core.proofs.public.InitialLengths.{length_taken}
use Rattle.dwarf_read_core.proofs.public.Readings.{initial_length-is, skip-is, then-decided, value-is}
use Rattle.dwarf_read_c.specs.Extents.{ExtentAt, ExtentRead}
use Rattle.dwarf_read_c.proofs.Common.{◌≡◌, ◌⊎◌, inl, inr, Bool, true, ℕ, ◌+◌, ◌-◌, ◌≤◌, ◌^◌, length, Ok, ap, arith, CloneRanOutOfMemory, Error, Input, length-drop}

-- the bytes decide an extent
extent-decided : IsDecided ExtentRead
extent-decided =
    then-decided (initial_length-is (2 ^ 64 - 1)).decided (λ size.
    then-decided (skip-is size.1).decided (λ _. (value-is size).decided))

-- a section has exactly one at an offset
pub extent_exactly_one : (section : Input) (offset : ℕ) → HasOne (ExtentAt section offset)
extent_exactly_one section offset =
    let one = (then-decided (skip-is offset).decided (λ (_ : ⊤). extent-decided)).one section in
    (one.0.0, record { new = one.0.1; read = one.1 }, λ other is. ap (λ r. r.0) (one.2 (other, is.new) is.read))

-- the bytes of an extent end within the section
pub extent-within : {section rest mid new : Input} {offset : ℕ} (size : Format × ℕ) → Takes offset section rest
    → LengthRead (2 ^ 64 - 1) rest (Ok size, mid) → Takes size.1 mid new
    → offset + initial_length_size size.0 + size.1 ≤ length section.bytes
extent-within {section} {rest} {mid} {offset = offset} size skipped measured skips =
    let front = length_taken measured in
    let after_front = ap (λ (i : Input). length i.bytes) front.left in
    let after_skip = ap (λ (i : Input). length i.bytes) skipped.left in
    let there = length-drop offset section.bytes in
    let left = length-drop (initial_length_size size.0) rest.bytes in
    omega (arith, skipped.enough, front.enough, skips.enough, after_front, after_skip, there, left)

-- if clones can't fail, a part that isn't there is cut
pub part_cut : {Cut Same : Type 0} {e : Error} {is_free : Bool} → is_free ≡ true
    → Cut ⊎ (CloneRanOutOfMemory is_free e × Same) → Cut
part_cut free (inl cut) = cut
part_cut free (inr want) = let costs = want.0.costs in absurd (cc)
