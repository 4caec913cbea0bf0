use Rattle.dwarf_listing_core.proofs.Common.{ListsRun}
use Rattle.dwarf_listing_core.proofs.ItemLines.{Completes}
use Rattle.dwarf_listing_core.proofs.sets.push_items.Given as goal

-- what is listed of the items that remain completes the text
abbrev pub invariant-loop-item : goal.invariant-loop-item
invariant-loop-item g l =
    record {
      can : (goal.iterator-loop-item g).can_next l.item-iterator;
      ends : (goal.iterator-loop-item g).is_finite l.item-iterator;
      completes : Completes (ListsRun g.I.Iterator.next_gives g.T.Listed.lists)
          l.fn.items l.item-iterator l.initial.text.items l.text.items;
    }
