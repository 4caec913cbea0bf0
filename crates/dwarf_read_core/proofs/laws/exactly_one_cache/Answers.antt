use Rattle.dwarf_read_core.proofs.cache.ExactlyOneCache.{cache-some, cache-same}
use Rattle.dwarf_read_core.proofs.laws.exactly_one_cache.Goals as goal

pub returns-clause-some : goal.returns-clause-some
returns-clause-some c = cache-some

pub returns-clause-same : goal.returns-clause-same
returns-clause-same c = cache-same
