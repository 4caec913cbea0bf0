-- What a call reports of an error.
use Rattle.std.specs.Prelude.{ℕ}
use Rattle.dwarf_read_core.specs.declared.Error.{Error}
use Rattle.dwarf_fault.specs.Fault.{IsKnown, Reports}
use Rattle.dwarf_fault.specs.declared.DwarfFault.{DwarfFault}

-- a call returns an error with the property and a number of its own
abbrev pub Rejects : (Error → Type 0) → ℕ → DwarfFault → Type 0
Rejects Holds = Reports (λ error. Holds error × IsKnown error)
