use Rattle.std.proofs.Common.{◌≡◌, Ok, map}
use Rattle.dwarf_read_core.proofs.read.abbrev.cache.before_error.Given as goal

abbrev pub invariant-loop-item : goal.invariant-loop-item
invariant-loop-item g l =
    (goal.iterator-loop-item g).can_next l.item-iterator
    × (goal.iterator-loop-item g).is_finite l.item-iterator
    × (l.yielded ≡ map (λ item. Ok item) l.taken.items)
