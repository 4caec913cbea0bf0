use Rattle.dwarf_read_core.proofs.Common.{◌≡◌, ◌∙◌, ◌<◌, ◌++◌, length, take, arith, common_steps, gives_err}
use Rattle.dwarf_read_core.proofs.tables.ReadingAttributes.{collected_push, front-ends, front-fails, front-goes_on}
use Rattle.dwarf_read_core.proofs.read.abbrev.collector.Collector.parse_attributes.Goals as goal

pub returns-in_err-attribute-clause-read : goal.returns-in_err-attribute-clause-read
returns-in_err-attribute-clause-read g c =
    let loop = c.attributes in
    gives_err _ _ c.from_residual.ensures.1
    (λ memory. front-fails _ _ _ _ _ (rw loop.invariant.same_end at
    (c.in_err-attribute.ensures.read memory)) loop.invariant.read)

pub attributes-preserved : goal.attributes-preserved
attributes-preserved g c =
    let loop = c.attributes in
    let room = c.if-len-eq-SCRATCH_LEN in
    let same : room.self-inside.overflow.items ++ take room.len room.self-inside.scratch
    ≡ loop.self-inside.overflow.items ++ take loop.len loop.self-inside.scratch =
    grind (arith, common_steps, room.branch) in
    let within : room.len < length room.self-inside.scratch = grind (arith, common_steps, room.branch) in
    record {
      read = rw (collected_push _ _ _ c.in-Some.attribute within, same)
          (front-goes_on _ _ _ c.in-Some.attribute _ _
          (rw (loop.invariant.same_end, c.in-Some.is) at c.in_ok-attribute.ensures.read) loop.invariant.read);
      short = grind (arith, room.branch);
      kept = grind (arith, room.branch);
      same_end = c.in_ok-attribute.ensures.same_end ∙ loop.invariant.same_end;
    }

pub returns-clause-read : goal.returns-clause-read
returns-clause-read g c =
    let loop = c.attributes in
    front-ends _ _ _ _ _ _
    (rw loop.invariant.same_end at c.in_ok-attribute.ensures.read) c.in_default.is loop.invariant.read
