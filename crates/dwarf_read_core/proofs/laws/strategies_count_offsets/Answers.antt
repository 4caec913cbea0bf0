use Rattle.dwarf_read_core.specs.Cache.{least_count}
use Rattle.dwarf_read_core.proofs.cache.CountingOffsets.{few_not_kept, occurs_never}
use Rattle.dwarf_read_core.proofs.laws.strategies_count_offsets.Goals as goal

pub returns-clause-never : goal.returns-clause-never
returns-clause-never c strategy section offsets key kept none keeps =
    few_not_kept (least_count strategy) section offsets key kept keeps (occurs_never strategy key offsets none)
