use Rattle.dwarf_read_core.proofs.Common.{rules, subst, get, Cache, StillKept, answer_of, is_final}
use Rattle.std.proofs.lemmas.Map.Made.{filter_same_pairs}
use Rattle.dwarf_read_core.proofs.cache.FaithfulToSection.{faithful_of_final}
use Rattle.dwarf_read_core.proofs.cache.NoMemoryError.{no_memory_error_final}
use Rattle.dwarf_read_core.proofs.cache.EntriesAsMap.{shown, get-shown-final}
use Rattle.dwarf_read_core.proofs.read.abbrev.cache.AbbreviationsCache.section_grew.Goals as goal

pub returns-clause-kept : goal.returns-clause-kept
returns-clause-kept c =
    let old = c.self.inside.abbreviations.entries in
    let new = c.retain.new.self.entries in
    let retained = filter_same_pairs _ (λ entry. is_final (answer_of entry.1)) _ (λ k v b w f' called. search rules)
    old new c.retain.ensures.filtered in
    λ key. subst (λ (cache : Cache). StillKept (get cache key) (get (shown new) key)) c.self.view_is
    (get-shown-final old new retained c.retain.ensures.was_ordered key)

pub invariant_of-self : goal.invariant_of-self
invariant_of-self c = no_memory_error_final c.args.self.now (shown c.retain.new.self.entries) (returns-clause-kept c)
    (rw c.self.view_is at c.self.invariant)

pub returns-clause-faithful : goal.returns-clause-faithful
returns-clause-faithful c = faithful_of_final c.args.self.now (shown c.retain.new.self.entries) (returns-clause-kept c)
