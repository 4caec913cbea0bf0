use Rattle.std.proofs.Common.{List, length, map, Result, Ok, ◌++◌}
use Rattle.dwarf_read_core.specs.declared.Error.{Error}
use Rattle.dwarf_read_core.specs.Entries.{RepresentsAddresses}
use Rattle.dwarf_uses.proofs.callers.addresses_in.Given as goal

-- whatever the entries that are left represent comes after the addresses so far
abbrev pub invariant-loop-entries : goal.invariant-loop-entries
invariant-loop-entries g l =
    (rest : List (Result _ Error)) → RepresentsAddresses l.entries rest
    → RepresentsAddresses l.initial.entries (map (λ n. Ok n) l.addresses.items ++ rest)

abbrev pub decreases-loop-entries : goal.decreases-loop-entries
decreases-loop-entries g l = length l.entries.rest.bytes
