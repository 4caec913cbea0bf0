use Rattle.std.proofs.Common.{arith}
use Rattle.dwarf_entry_core.proofs.Remaining.{code-shorter}
use Rattle.dwarf_entry_core.proofs.entries.EntriesRaw.read_abbreviation.Goals as goal

pub returns-then-code-eq0-clause-bound : goal.returns-then-code-eq0-clause-bound
returns-then-code-eq0-clause-bound g c = omega (arith, code-shorter _ _ _ c.in_ok-code.ensures.ok)

pub returns-in-Some-clause-bound : goal.returns-in-Some-clause-bound
returns-in-Some-clause-bound g c = omega (arith, code-shorter _ _ _ c.in_ok-code.ensures.ok)
