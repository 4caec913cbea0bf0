-- What ends a list of addresses.
use Rattle.std.proofs.Common.{◌≢◌, List, [], ◌∷◌, inl, inr, Result, Err, Some, true}
use Rattle.dwarf_read_core.specs.declared.Error.{Error}
use Rattle.dwarf_read_core.specs.declared.Error.TheVariants.{OutOfMemory}
use Rattle.dwarf_read_core.specs.Entries.{Entries, RepresentsAddresses}
use Rattle.dwarf_read_core.specs.Input.{Input}
use Rattle.dwarf_read_core.specs.Items.{AreItems, GivesFirst, only_error}

-- no items follow an error
error_is_last : {S A : Type 0} {rest : S → Input} {At : S → Result A Error × S → Type 0} {old : S} {e : Error}
    {others : List (Result A Error)} → AreItems rest At old (Err e ∷ others) → AreItems rest At old (Err e ∷ [])
error_is_last (only_error some at) = only_error some at

-- an error that `next` returned is the only item, unless memory ran out
pub error_is_item : (old new : Entries) (e : Error) → e ≢ OutOfMemory
    → GivesFirst RepresentsAddresses (λ x. x) true old (Some (Err e)) new → RepresentsAddresses old (Err e ∷ [])
error_is_item old new e memory (inl comes) = error_is_last (comes.1 comes.0.0 comes.0.1)
error_is_item old new e memory (inr ran) = absurd (memory ran.0.fault)
