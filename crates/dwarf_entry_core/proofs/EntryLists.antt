-- The bytes of a unit have exactly one list of entries.
use Rattle.std.proofs.Common.{ℕ, Ok, None, arith}
use Rattle.std.specs.FinMap as finite
use Rattle.std.specs.Prelude.{◌==◌}
use Rattle.dwarf_read_core.proofs.public.Consuming.{rest-length}
use Rattle.dwarf_read_core.proofs.public.Items.{TakesLeast, items-exactly_one}
use Rattle.dwarf_read_core.proofs.public.Readings.{choice-is, value-is}
use Rattle.dwarf_read_core.specs.Readings.{Choice, Given, IsRead}
use Rattle.dwarf_read_core.specs.declared.Encoding.{Encoding}
use Rattle.dwarf_read_core.specs.Grammar.{Table}
use Rattle.dwarf_read_core.specs.Input.{Input}
use Rattle.dwarf_read_core.specs.Once.{HasOne}
use Rattle.dwarf_entry_core.specs.Entries.{AreEntries, EntryRead, FoundRead}
use Rattle.dwarf_entry_core.proofs.Remaining.{code-shorter}
use Rattle.dwarf_entry_core.proofs.Values.{body-is, entry-is, found-is}

module _ (greatest : ℕ) (e : Encoding) (table : Table) where
  -- what follows a code is a reading
  found_read : (code : ℕ) → IsRead (Choice (code == 0) (Given (Ok None)) (FoundRead code (finite.get table.by_code code)))
  found_read code = choice-is (code == 0) (value-is None) (found-is greatest e code (finite.get table.by_code code))

  -- an entry takes at least one byte
  entry-least : TakesLeast (λ i. i) (EntryRead greatest e table) (λ x. 1)
  entry-least = record {
    by = λ old new x is.
        let code = is.2 in
        let found = found_read code.0 in
        let left = found.decided.taken code.1 is.1 (Ok is.0) code.3 in
        let body = (body-is greatest e is.0).decided.taken is.1 new (Ok x) is.3 in
        omega (
          arith,
          code-shorter old code.1 code.0 code.2,
          rest-length left.0 code.1 is.1 left.1,
          rest-length body.0 is.1 new body.1,
        );
  }

  pub entries-one : (old : Input) → HasOne (AreEntries greatest e table old)
  entries-one = items-exactly_one (entry-is greatest e table).decided.one entry-least (λ x. omega arith)
