use Rattle.std.proofs.Common.{◌≡◌, Ok, Err, map, ◌++◌, drop, List}
use Rattle.dwarf_read_core.specs.declared.Error.{Error}
use Rattle.dwarf_read_core.specs.Input.{Input}
use Rattle.dwarf_entry_core.specs.Entries.{AttributesRead}
use Rattle.dwarf_entry_core.specs.Seen.{SeenAttribute, seen_attribute}
use Rattle.dwarf_entry_core.proofs.entries.EntriesRaw.read_attributes.Given as goal

-- what the specifications that are left find from here on is what all find from the start
abbrev pub invariant-loop-spec : goal.invariant-loop-spec
invariant-loop-spec g l =
    let At = AttributesRead g.R.Offset.ReaderOffset.GREATEST l.initial.self.encoding in
    let seen = map (seen_attribute g.R.Reader.view g.R.Offset.ReaderOffset.value) l.attributes.items in record {
      found : (xs : List SeenAttribute) (new : Input)
          → At (drop l.spec-index l.specs) (g.R.Reader.view l.self.input) (Ok xs, new)
          → At l.specs (g.R.Reader.view l.initial.self.input) (Ok (seen ++ xs), new);
      missed : (e : Error) (new : Input) → At (drop l.spec-index l.specs) (g.R.Reader.view l.self.input) (Err e, new)
          → At l.specs (g.R.Reader.view l.initial.self.input) (Err e, new);
      encoding : l.self.encoding ≡ l.initial.self.encoding;
      table : l.self.abbreviations ≡ l.initial.self.abbreviations;
      end : l.self.end ≡ l.initial.self.end;
      order : g.R.Reader.order l.self.input ≡ g.R.Reader.order l.initial.self.input;
    }
