use Rattle.std.proofs.Common.{false, drop, take, take-append-drop}
use Rattle.dwarf_read_core.specs.Input.{section_of}
use Rattle.dwarf_compare.proofs.single.grown_at.Goals as goal

pub returns : goal.returns
returns c =
    let bytes = c.args.section.now in
    let n = c.min-before.result in
    c.cached_at.ensures (rw take-append-drop at
    (c.section_grew.ensures.faithful (section_of (take n bytes) false) (drop n bytes) c.in_ok-cache.ensures.ok))
