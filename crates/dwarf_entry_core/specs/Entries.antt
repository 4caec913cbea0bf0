-- The entries of a unit (DWARF 5, 7.5.2 and 7.5.3).
use Rattle.std.specs.Prelude.{ℕ, ◌==◌, List, [], ◌∷◌, Option, Some, None, Result, Ok, Err}
use Rattle.std.specs.FinMap as finite
use Rattle.dwarf_read_core.specs.declared.Encoding.{Encoding}
use Rattle.dwarf_read_core.specs.declared.Error.{Error}
use Rattle.dwarf_read_core.specs.declared.Error.TheVariants.{InvalidAbbreviationCode}
use Rattle.dwarf_read_core.specs.Grammar.{Declaration, Specification, Table}
use Rattle.dwarf_read_core.specs.Input.{Input}
use Rattle.dwarf_read_core.specs.Items.{AreItems}
use Rattle.dwarf_read_core.specs.Leb128.{unsigned64}
use Rattle.dwarf_read_core.specs.Readings.{Choice, Given, Leb128Read, Mapped, Reading, ◌>>=◌}
use Rattle.dwarf_entry_core.specs.Seen.{Seen, SeenAttribute}
use Rattle.dwarf_entry_core.specs.Values.{ValueRead}

-- ---- the parts of an entry

-- the attribute of this name, whose form and value these are
abbrev pub named : ℕ → ℕ × Seen → SeenAttribute
named name x = record { name = record { 0 = name }; form = record { 0 = x.0 }; value = x.1 }

-- the attribute that this specification is of
abbrev pub AttributeRead : ℕ → Encoding → Specification → Reading SeenAttribute
AttributeRead greatest e s = Mapped (named s.name) (ValueRead greatest e s)

-- the abbreviation of a code, or the error that the table has none
abbrev pub FoundRead : ℕ → Option Declaration → Reading (Option Declaration)
FoundRead code None = Given (Err (InvalidAbbreviationCode code))
FoundRead code (Some d) = Given (Ok (Some d))

-- the code of an entry, and its abbreviation; the code 0 is that of a null entry, which has none
abbrev pub CodeRead : Table → Reading (Option Declaration)
CodeRead table = do
  code ← Leb128Read unsigned64
  Choice (code == 0) (Given (Ok None)) (FoundRead code (finite.get table.by_code code))

-- ---- whole entries

-- the attributes of an entry, one for each specification
abbrev pub AttributesRead : ℕ → Encoding → List Specification → Reading (List SeenAttribute)
AttributesRead greatest e [] = Given (Ok [])
AttributesRead greatest e (s ∷ specs) = do
  x ← AttributeRead greatest e s
  Mapped (λ xs. x ∷ xs) (AttributesRead greatest e specs)

-- an entry: its abbreviation and its attributes, or nothing for a null entry
abbrev pub SeenEntry : Type 0
SeenEntry = Option (Declaration × List SeenAttribute)

-- the attributes of the entry that has this abbreviation
abbrev pub BodyRead : ℕ → Encoding → Option Declaration → Reading SeenEntry
BodyRead greatest e None = Given (Ok None)
BodyRead greatest e (Some d) = Mapped (λ xs. Some (d, xs)) (AttributesRead greatest e d.attributes)

-- an entry
abbrev pub EntryRead : ℕ → Encoding → Table → Reading SeenEntry
EntryRead greatest e table = do
  abbreviation ← CodeRead table
  BodyRead greatest e abbreviation

-- the entries of a unit, up to the end of its bytes, or up to one error
abbrev pub AreEntries : ℕ → Encoding → Table → Input → List (Result SeenEntry Error) → Type 0
AreEntries greatest e table = AreItems (λ i. i) (EntryRead greatest e table)
