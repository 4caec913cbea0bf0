-- What is read leaves no more bytes than there were.
use Rattle.std.specs.Prelude.{OnOk}
use Rattle.std.proofs.Common.{◌≤◌, ◌<◌, Bool, ℕ, length, Result, Ok, Err, arith}
use Rattle.std.proofs.lemmas.Grind.{common_steps}
use Rattle.dwarf_read_core.proofs.public.Consuming.{rest-length}
use Rattle.dwarf_read_core.specs.declared.Error.{Error}
use Rattle.dwarf_read_core.specs.Input.{Input}
use Rattle.dwarf_read_core.specs.Leb128.{ReadsLeb128, unsigned64}
use Rattle.dwarf_read_core.specs.Readings.{IsRead, Reading, Reads, ReadsIfCloned}

-- a code takes at least one byte
pub code-shorter : (old new : Input) (x : ℕ) → ReadsLeb128 unsigned64 old x new → length new.bytes < length old.bytes
code-shorter old new x is = grind (arith, common_steps)

module _ {A : Type 0} {At : Reading A} (read : IsRead At) where
  -- a reading leaves no more bytes
  pub left : (old new : Input) (result : Result A Error) → At old (result, new) → length new.bytes ≤ length old.bytes
  left old new result is =
      let taken = read.decided.taken old new result is in
      omega (arith, rest-length taken.0 old new taken.1)

  module _ {X : Type 0} (seen : X → A) (old new : Input) where
    -- nor does a call that returns a value
    pub left_of-call : (result : Result X Error) → Reads At seen old result new
        → OnOk result (length new.bytes ≤ length old.bytes)
    left_of-call (Ok x) is = left old new (Ok (seen x)) is
    left_of-call (Err e) is = tt

    -- nor one that clones the reader
    pub left_of-clone : (is_free : Bool) (result : Result X Error) → ReadsIfCloned is_free At seen old result new
        → OnOk result (length new.bytes ≤ length old.bytes)
    left_of-clone is_free (Ok x) is = left old new (Ok (seen x)) is
    left_of-clone is_free (Err e) is = tt
