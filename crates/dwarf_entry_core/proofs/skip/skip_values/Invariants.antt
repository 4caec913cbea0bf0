use Rattle.std.proofs.Common.{◌≡◌, Ok, Err, drop}
use Rattle.dwarf_read_core.specs.declared.Error.{Error}
use Rattle.dwarf_read_core.specs.Input.{Input}
use Rattle.dwarf_entry_core.specs.Skipped.{AttributesSkipped}
use Rattle.dwarf_entry_core.proofs.skip.skip_values.Given as goal

-- what is skipped from here on is what is skipped from the start
abbrev pub invariant-loop-spec : goal.invariant-loop-spec
invariant-loop-spec g l =
    let At = AttributesSkipped g.R.Offset.ReaderOffset.GREATEST l.fn.encoding in record {
      found : (new : Input) → At (drop l.spec-index l.specs) (g.R.Reader.view l.input) (Ok tt, new)
          → At l.specs (g.R.Reader.view l.initial.input) (Ok tt, new);
      missed : (e : Error) (new : Input) → At (drop l.spec-index l.specs) (g.R.Reader.view l.input) (Err e, new)
          → At l.specs (g.R.Reader.view l.initial.input) (Err e, new);
      order : g.R.Reader.order l.input ≡ g.R.Reader.order l.initial.input;
    }
