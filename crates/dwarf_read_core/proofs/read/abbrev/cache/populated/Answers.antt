use Rattle.dwarf_read_core.proofs.Common.{refl, rules, ℕ, ◌≡◌, ◌≢◌, ◌≤◌, ◌+◌, ◌++◌, ◌∷◌, [], get_or, map, take, ap, sym, subst, ◌∙◌, arith, IsNonDecreasingBy, eq-eqb, take_all, get_or_default, All-push, IsPermutation-map, IsNonDecreasingBy-from_sort_by_key, occurrences, least_count, KeepsAnswers, debug_abbrev_reader, get, answer_of}
use Rattle.dwarf_base_core.specs.declared.common.DebugAbbrevOffset.{DebugAbbrevOffset}
use Rattle.dwarf_read_core.proofs.cache.CountingOffsets.{occurrences-push, occurrences_above, seen_more, kept_same, kept_more, kept_in_any_order, kept_nothing, get_inserted}
use Rattle.dwarf_read_core.proofs.cache.NoMemoryError.{answer_not_memory}
use Rattle.dwarf_read_core.proofs.read.abbrev.cache.populated.Goals as goal
use Rattle.dwarf_read_core.proofs.read.abbrev.cache.populated.Goals.{then-number-last, else-number-last, then-count-least_count+in_ok-answer+in_ok-keep, else-count-least_count}

pub loop-offset-init : goal.loop-offset-init
loop-offset-init g c = record {
  counted = refl;
  fits = omega arith;
  seen_upto = λ k d within. absurd (omega arith);
  left_from = λ k d from within. omega arith;
  kept = kept_nothing c.args.strategy (g.R.Reader.view (debug_abbrev_reader c.args.debug_abbrev.now)) c.new-cache.result
      c.new-cache.ensures;
}

pub keep-requires : goal.keep-requires
keep-requires g c = answer_not_memory c.in_ok-answer.ensures.ok

pub loop-offset-preserved : goal.loop-offset-preserved
loop-offset-preserved g c =
    let number : DebugAbbrevOffset g.row.R-Offset.Denot → ℕ = λ offset. g.R.Offset.ReaderOffset.value offset.0 in
    let loop = c.loop-offset in
    let key = c.into_u64-number.result in
    let i = loop.offset-index in
    let items = c.deref-offset-items.result.now in
    let item = c.offset-item.result in
    let seen = map number (take i items) in
    let read : get_or items i item ≡ item = search rules in
    let next : map number (take (i + 1) items) ≡ seen ++ key ∷ [] =
    seen_more number items i item key c.loop-offset-test.true read c.into_u64-number.ensures.number in
    let rising : IsNonDecreasingBy number items = rw c.deref-offset-items.ensures.value
    (IsNonDecreasingBy-from_sort_by_key number _ c.sort_unstable_by_key.ensures.sorted (λ a r f' k. search rules)) in
    let above : loop.last ≤ key = rw c.into_u64-number.ensures.number
    (subst (λ offset. loop.last ≤ number offset) read
    (loop.invariant.left_from i item (omega arith) c.loop-offset-test.true)) in
    let count : c.if-number-last.count ≡ occurrences key seen + 1 =
    let none = occurrences_above key loop.last seen loop.invariant.seen_upto in
    grind (arith, c.if-number-last.branch, none, loop.invariant.counted) in
    record {
      counted = count ∙ sym (ap (occurrences key) next ∙ occurrences-push key key seen ∙ rw (eq-eqb key key refl) refl);
      fits = grind (arith, c.if-number-last.branch);
      seen_upto = rw next (All-push (λ offset. offset ≤ key) seen key
          (λ k d within. omega (arith, loop.invariant.seen_upto k d within)) (omega arith));
      left_from = λ k d from within. rw c.into_u64-number.ensures.number
          (subst (λ offset. number offset ≤ number (get_or items k d))
          (get_or_default items i d item c.loop-offset-test.true ∙ read) (rising i k d (omega arith) within));
      kept = rw next (elim c.if-count-least_count.branch [
        | then-count-least_count+in_ok-answer+in_ok-keep w ↦
            let enough = sym count ∙ w.if-count-least_count.true ∙ c.least_count.ensures in
            rw (w.cache-is, w.in_ok-keep.ensures.ok)
            (kept_more (least_count c.args.strategy) _ seen key _ _ _ loop.invariant.kept enough
            (rw c.into_u64-number.ensures.number w.in_ok-answer.ensures.ok)
            (get_inserted loop.cache key (answer_of w.in_ok-answer.answer)))
        | else-count-least_count w ↦
            let other : occurrences key seen + 1
            ≢ least_count c.args.strategy =
            λ enough. w.if-count-least_count.false (count ∙ enough ∙ sym c.least_count.ensures) in
            rw w.cache-is (kept_same (least_count c.args.strategy) _ seen key _ loop.invariant.kept other)
      ]);
    }

pub returns-clause-ok : goal.returns-clause-ok
returns-clause-ok g c =
    let number : DebugAbbrevOffset g.row.R-Offset.Denot → ℕ = λ offset. g.R.Offset.ReaderOffset.value offset.0 in
    let items = c.deref-offset-items.result.now in
    let section = g.R.Reader.view (debug_abbrev_reader c.args.debug_abbrev.now) in
    kept_in_any_order (least_count c.args.strategy) section (map number c.args.offsets.items) (map number items) _
    (IsPermutation-map number _ _ (rw c.deref-offset-items.ensures.value c.sort_unstable_by_key.ensures.permutation))
    (subst (λ (offsets : _). KeepsAnswers (least_count c.args.strategy) section (map number offsets)
    (get c.loop-offset.cache))
    (take_all c.loop-offset.offset-index items c.loop-offset-test.false) c.loop-offset.invariant.kept)
