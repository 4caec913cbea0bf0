use Rattle.dwarf_read_core.proofs.Common.{arith, sym, subst, KeepsNoOutOfMemory, answer_of}
use Rattle.dwarf_read_core.proofs.cache.NoMemoryError.{no_memory_error_insert}
use Rattle.dwarf_read_core.proofs.cache.EntriesAsMap.{get-shown, shown, shown-insert}
use Rattle.dwarf_read_core.proofs.read.abbrev.cache.AbbreviationsCache.keep.Goals as goal

pub returns-in_err-insert-clause-free : goal.returns-in_err-insert-clause-free
returns-in_err-insert-clause-free c = grind (arith, get-shown)

pub invariant_of-self-2 : goal.invariant_of-self-2
invariant_of-self-2 c =
    let old = c.self.inside.abbreviations.entries in
    subst KeepsNoOutOfMemory (sym (shown-insert old _ c.args.offset c.args.answer c.in_ok-insert.ensures.updates.0))
    (no_memory_error_insert (shown old) c.args.offset (answer_of c.args.answer) c.self.invariant c.requires)

pub returns-clause-ok : goal.returns-clause-ok
returns-clause-ok c =
    rw (← c.self.view_is)
    (shown-insert c.self.inside.abbreviations.entries _ c.args.offset c.args.answer c.in_ok-insert.ensures.updates.0)
