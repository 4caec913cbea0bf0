use Rattle.dwarf_read_c.proofs.Common.{◌≡◌, ◌≢◌, ◌∙◌, Result, Err, refl, sym, ap, arith, Error, error_number}
use Rattle.dwarf_read_core.proofs.public.Tables.{answer_exactly_one}
use Rattle.dwarf_read_core.specs.declared.Error.TheVariants.{OutOfMemory}
use Rattle.dwarf_read_core.specs.Grammar.{Table}
use Rattle.dwarf_read_c.proofs.tables.reject_table.Goals as goal

pub returns-in-OutOfMemory-clause-rejected : goal.returns-in-OutOfMemory-clause-rejected
returns-in-OutOfMemory-clause-rejected c = record {
  error = OutOfMemory;
  holds = (λ other. absurd (other refl), omega arith);
  numbered = c.reject.ensures.status;
  reported = c.reject.ensures.reported;
}

pub returns-in-Ok-clause-before : goal.returns-in-Ok-clause-before
returns-in-Ok-clause-before c = λ known within. (c.in-Ok.before, (c.in-Ok.end, c.in-Ok.ensures.end, c.measure.ensures))

-- the second reading finds the same error, and so fails only if memory runs out, or the offset is outside
pub returns-in-Err-clause-before : goal.returns-in-Err-clause-before
returns-in-Err-clause-before c =
    λ known within.
    let first : c.args.error ≢ OutOfMemory = grind (arith, c.in_default) in
    let second : c.in-Err.error ≢ OutOfMemory = λ memory. known (c.reject-in-Err.ensures.status ∙ ap error_number memory) in
    let one = answer_exactly_one _ c.args.offset in
    let both : ◌≡◌ {A = Result Table Error} (Err c.args.error) (Err c.in-Err.error) =
    one.2 _ (c.requires.error first) ∙ sym (one.2 _ (c.in-Err.ensures.err second)) in
    let same : c.args.error ≡ c.in-Err.error = cc in
    absurd (c.in-Err.ensures.other second within same)
