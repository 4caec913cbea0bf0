-- Bytes whose end is cut off.
use Rattle.std.proofs.lemmas.List.{drop-take}

-- dropping m bytes of the first m + n leaves the first n of what remains after m bytes are dropped
pub ruleset cut_steps = drop-take
