use Rattle.dwarf_read_core.proofs.Common.{arith, common_steps}
use Rattle.std.proofs.Common.{rules}
use Rattle.dwarf_read_core.proofs.cache.FirstItem.{first_item-of_memory_error}
use Rattle.dwarf_read_core.proofs.read.abbrev.cache.before_error.Goals as goal

pub returns-in-Err-OutOfMemory-clause-some : goal.returns-in-Err-OutOfMemory-clause-some
returns-in-Err-OutOfMemory-clause-some g c =
    let loop = c.loop-item in
    let whole = c.into_iter-item-iterator in
    rw (← whole.ensures.into_iter_gives)
    (first_item-of_memory_error g.I.Iterator.next_gives whole.result loop.item-iterator _ loop.yielded loop.taken.items
    c.in-Some.item (search rules) loop.invariant.2 loop.yielded_by c.in-Some.ensures.steps)

pub loop-item-preserved : goal.loop-item-preserved
loop-item-preserved g c = (search rules, search rules, grind (arith, common_steps))

pub returns-in_err-push-in-Ok-clause-some : goal.returns-in_err-push-in-Ok-clause-some
returns-in_err-push-in-Ok-clause-some g c = grind (arith, common_steps)
