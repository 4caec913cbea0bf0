use Rattle.std.proofs.Common.{◌≤◌, length}
use Rattle.dwarf_compare.proofs.entries.attributes.Given as goal

-- attributes give no bytes back
abbrev pub invariant-loop-spec : goal.invariant-loop-spec
invariant-loop-spec g l =
    length (g.R.Reader.view l.entries.input).bytes ≤ length (g.R.Reader.view l.initial.entries.input).bytes
