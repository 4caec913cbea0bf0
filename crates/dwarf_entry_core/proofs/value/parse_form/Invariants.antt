use Rattle.std.proofs.Common.{◌≡◌, ℕ, length}
use Rattle.dwarf_read_core.specs.declared.Error.{Error}
use Rattle.dwarf_read_core.specs.Input.{Input}
use Rattle.dwarf_entry_core.specs.Values.{HasForm, HasNoForm}
use Rattle.dwarf_entry_core.proofs.value.parse_form.Given as goal

-- what is found from here on is what is found from the start
abbrev pub invariant-loop-actual : goal.invariant-loop-actual
invariant-loop-actual g l = record {
  found : (x : ℕ) (new : Input) → HasForm (g.R.Reader.view l.input) l.actual.0 x new
      → HasForm (g.R.Reader.view l.initial.input) l.fn.form.0 x new;
  missed : (e : Error) (new : Input) → HasNoForm (g.R.Reader.view l.input) l.actual.0 e new
      → HasNoForm (g.R.Reader.view l.initial.input) l.fn.form.0 e new;
  order : g.R.Reader.order l.input ≡ g.R.Reader.order l.initial.input;
}

abbrev pub decreases-loop-actual : goal.decreases-loop-actual
decreases-loop-actual g l = length (g.R.Reader.view l.input).bytes
