use Rattle.dwarf_listing_core.proofs.Common.{arith, ◌≡◌, OutOfMemory}
use Rattle.std.specs.Prelude.{◌⊎◌}
use Rattle.dwarf_listing_core.specs.declared.fault.Fault.{Fault}
use Rattle.dwarf_listing_core.specs.declared.fault.Fault.TheVariants.{Usage, Section}
use Rattle.dwarf_listing_core.proofs.words.command_line.Goals as goal

-- a fault that a fact and its opposite name is one of the two that they name
one_of_two : {Holds : Type 0} (fault : Fault) → (Holds → fault ≡ Section OutOfMemory) → (¬ Holds → fault ≡ Usage)
    → (fault ≡ Usage) ⊎ (fault ≡ Section OutOfMemory)
one_of_two fault if_so if_not = grind arith

pub returns-in-Err : goal.returns-in-Err
returns-in-Err g c = record { err = one_of_two _ c.fault_of.ensures.memory c.fault_of.ensures.usage }
