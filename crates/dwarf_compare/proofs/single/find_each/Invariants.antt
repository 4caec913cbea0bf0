use Rattle.std.proofs.Common.{◌≡◌, map, take}
use Rattle.dwarf_compare.specs.Tags.{tag_in}
use Rattle.dwarf_compare.proofs.single.find_each.Given as goal

-- the tags so far are in front
abbrev pub invariant-loop-i : goal.invariant-loop-i
invariant-loop-i l = take l.i l.tags ≡ map (tag_in l.table) (take l.i l.codes)
