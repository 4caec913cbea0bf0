use Rattle.std.proofs.Common.{All}
use Rattle.dwarf_read_core.specs.Equality.{HasValueByForm}
use Rattle.dwarf_read_core.proofs.read.abbrev.tests.attributes.Given as goal

-- each attribute so far has a value exactly if its form has one
abbrev pub invariant-loop : goal.invariant-loop
invariant-loop l = All HasValueByForm l.attributes.items
