-- Iterators over entries end.
use Rattle.dwarf_read_core.proofs.Common.{◌≡◌, ◌+◌, ◌<◌, ◌≤◌, [], length, Option, Result, arith, Error, Entries}
use Rattle.std.specs.Prelude.{⊤, IfOk, IfSome, OnErr}
use Rattle.std.specs.Iterator.{MakesProgress, at_most}
use Rattle.std.specs.Result.{result_transpose}

-- `next` makes progress over entries, so their iterators end
pub entries_progress : {X : Type 0} (old new : Entries) (result : Result (Option X) Error)
    (given : Option (Result X Error)) → given ≡ result_transpose result
    → IfOk result (λ item. IfSome item (λ _. (length new.rest.bytes + old.width ≡ length old.rest.bytes)
    × (length new.rest.bytes < length old.rest.bytes)))
    → OnErr result (new.rest.bytes ≡ []) → OnErr result (1 ≤ length old.rest.bytes)
    → MakesProgress (λ _. ⊤) (λ (s : Entries). at_most (length s.rest.bytes)) old given new
entries_progress old new result given is shorter empty some = grind arith
