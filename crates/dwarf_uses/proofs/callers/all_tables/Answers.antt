use Rattle.std.proofs.Common.{false, Ok, arith, rules, subst}
use Rattle.dwarf_read_core.specs.Answer.{Answer, TableEndsAt}
use Rattle.dwarf_read_core.specs.Input.{Input, section_of}
use Rattle.dwarf_read_core.proofs.public.Tables.{end_after}
use Rattle.dwarf_uses.specs.Callers.{none, one_more}
use Rattle.dwarf_uses.proofs.callers.all_tables.Goals as goal

pub loop-offset-init : goal.loop-offset-init
loop-offset-init c = record { tables = rw c.new-tables.ensures.items none; within = omega arith }

pub loop-offset-smaller : goal.loop-offset-smaller
loop-offset-smaller c =
    let offset = c.loop-offset.offset in
    let end = c.in_ok-table.end.0 in
    let ends = subst (λ (s : Input). TableEndsAt s offset c.in_ok-table.table end) c.new-section.ensures.view
    c.in_ok-table.ensures.end in
    omega (arith, ends.2, end_after (section_of c.args.bytes.now false) offset end _ (search rules) ends)

pub loop-offset-preserved : goal.loop-offset-preserved
loop-offset-preserved c =
    let section = c.new-section.ensures.view in
    let offset = c.loop-offset.offset in
    let table = c.in_ok-table.table in
    let ends = subst (λ (s : Input). TableEndsAt s offset table c.in_ok-table.end.0) section c.in_ok-table.ensures.end in
    let answer = subst (λ (s : Input). Answer s offset (Ok table)) section c.in_ok-table.ensures.answer in
    record {
      tables = rw c.in_ok-push.ensures.items (one_more _ _ _ _ c.loop-offset.invariant.tables (search rules) answer ends);
      within = omega (arith, ends.2);
    }
