-- Names that the proofs of this crate cite from elsewhere, passed on from one place.
pub use Rattle.std.proofs.Common.{set, Bool, true, false, cond, refl, ◌≡◌, ◌≢◌, ◌∙◌, Result, Ok, Err, subst, ℕ, ◌+◌}
pub use Rattle.std.proofs.Common.{◌<◌, ◌≤◌, eqb, List, [], ◌∷◌, ◌++◌, length, take, get_or, map, Option, Some, None}
pub use Rattle.std.proofs.Common.{MatchOption, sym, arith, All, IsPermutation, option_map, ap, filter}
pub use Rattle.std.proofs.Common.{nat_cmp, Less, suc, zero, ◌-◌, inl, inr, IfSome, OnErr, ◌*◌, ◌/◌}
pub use Rattle.std.proofs.Common.{IfErr, leb, drop, ◌⊎◌, slice_index, IfOk, IsTrue, rules}
pub use Rattle.std.proofs.Common.{◌==◌, ltb-true, is_some, sum_by, append_assoc}
pub use Rattle.std.proofs.Common.{length-append, length-take-le, take-append-drop, ne_eqb, ◌↔◌, ltb, lt-ltb, le-ltb}
pub use Rattle.std.proofs.Common.{Bor, option_copied, append-nil, length-drop, ℤ, OnOk}
pub use Rattle.std.specs.BTreeMap.{is_at}
pub use Rattle.std.specs.Cmp.{nat_cmp_total, eq_by_cmp_equiv}
pub use Rattle.std.specs.FinMap.{get, insert, from_entries, contains_key, empty, empty_of_len, find}
pub use Rattle.std.specs.FinMap.{from_entries_push, get-from_entries, nat_cmp-IsAntisymmetric, same_map, entries, len}
pub use Rattle.std.specs.FinMap.{entries-insert, len-insert, len-empty, len-entries, get-entries, values, get-insert}
pub use Rattle.std.specs.List.{AllPairs, AllWithin, AllByRecursion, Any}
pub use Rattle.std.specs.List.Sorted.{IsNonDecreasingBy}
unfoldable pub use Rattle.std.specs.List.Sorted.{IsStrictlySortedBy}
pub use Rattle.std.specs.Map.{lookup, keys_of, values_of}
pub use Rattle.std.proofs.lemmas.Bool.{eqb-true, eqb-false, eq-eqb, cases_lt, le-leb, lt-leb, true≢false}
pub use Rattle.std.proofs.lemmas.Bool.Decides.{nat_tests}
pub use Rattle.std.proofs.lemmas.Fn.{called_at}
pub use Rattle.std.proofs.lemmas.Grind.{common_steps}
pub use Rattle.std.proofs.lemmas.List.{take_more, map_push, get_or_default, take_all}
pub use Rattle.std.proofs.lemmas.List.{drop-append-le, take-append-le, nil_from_length}
pub use Rattle.std.proofs.lemmas.List.Elements.{All-head, All-tail, same_from_all_zip, All-push}
pub use Rattle.std.proofs.lemmas.List.Sorted.{sum_by-IsPermutation, IsPermutation-map}
pub use Rattle.std.proofs.lemmas.List.Sorted.{IsNonDecreasingBy-from_sort_by_key}
pub use Rattle.std.proofs.lemmas.List.Sums.{sum_by_push, sum_by-cons}
pub use Rattle.std.proofs.lemmas.Map.Entries.{lookup-filter-values}
pub use Rattle.std.proofs.lemmas.Map.Keys.{IsDistinct-from_sorted}
pub use Rattle.std.proofs.lemmas.Map.Made.{lookup-map_values}
pub use Rattle.dwarf_base_core.specs.declared.error.Error.{Error}
pub use Rattle.dwarf_base_core.specs.declared.error.Error.TheVariants.{OutOfMemory, UnsupportedOffset}
pub use Rattle.dwarf_base_core.specs.declared.error.Error.TheVariants.{UnsupportedAddressSize}
pub use Rattle.dwarf_base_core.specs.declared.error.Error.TheVariants.{DuplicateAbbreviationCode, AttributeNameZero}
pub use Rattle.dwarf_base_core.specs.declared.error.Error.TheVariants.{AttributeFormZero, AbbreviationTagZero}
pub use Rattle.dwarf_base_core.specs.declared.error.Error.TheVariants.{InvalidAbbreviationChildren}
pub use Rattle.dwarf_base_core.specs.declared.error.Error.TheVariants.{UnterminatedAbbreviations}
pub use Rattle.dwarf_reader_core.specs.Appended.{followed_by, IsNotEof}
pub use Rattle.dwarf_reader_core.specs.Faults.{IsTooShort, eof_here, is_number_size, HasNoByte, ReadsNoWord, CloneRanOutOfMemory}
pub use Rattle.dwarf_reader_core.specs.Faults.{ReadsNoAddress, eof}
pub use Rattle.dwarf_reader_core.specs.Input.{Input, first, Takes, after, TakesNumber, TakesString, end_of}
pub use Rattle.dwarf_reader_core.specs.Leb128.{Kind, Number, IsEncoding, NoneIsLast, IsLeb128, IsMalformed, unsigned64}
pub use Rattle.dwarf_reader_core.specs.Leb128.{unsigned16, signed64, overflow_error, limit, value, is_in_range, HasLeb128}
pub use Rattle.dwarf_reader_core.specs.Leb128.{IsTruncated, ReadsLeb128, ReadsNoLeb128}
pub use Rattle.dwarf_reader_core.specs.Once.{HasOne}
pub use Rattle.dwarf_reader_core.proofs.public.Consuming.{rest-length, takes-both}
pub use Rattle.dwarf_read_core.specs.Answer.{Answer, IsFinal, IsFirstError, HasError, number_cut, number_bad, children_cut}
pub use Rattle.dwarf_read_core.specs.Answer.{tag_zero, children_bad, name_zero, form_zero, in_declaration, repeated}
pub use Rattle.dwarf_read_core.specs.Answer.{outside, table, first_error, Answers, TakesNoMemory, IsBeginning, before_code}
pub use Rattle.dwarf_read_core.specs.Answer.{before_tag, before_name, before_form, before_value, strictly}
pub use Rattle.dwarf_read_core.specs.Answer.{StrictAnswer, AnswersStrictly, IsStrictlyFinal, FitsIn}
pub use Rattle.dwarf_read_core.specs.Cache.{KeepsAnswers, occurrences, Cache, answer_of}
pub use Rattle.dwarf_read_core.specs.Cache.{shown_entries, StillKept, IsFaithful, HasFirstItem, KeepsNoOutOfMemory}
pub use Rattle.dwarf_read_core.specs.Cache.{least_count}
pub use Rattle.dwarf_read_core.specs.Entries.{Entries}
pub use Rattle.dwarf_read_core.specs.Grammar.{Table, by_null, by_end, Declaration, closed, implicit_const}
pub use Rattle.dwarf_read_core.specs.Grammar.{IsTable, IsTableBefore, closed_by_null, closed_by_end}
pub use Rattle.dwarf_read_core.specs.Grammar.{by_code_of, Specification, Sequence, IsSpecification, IsNull, IsFront}
pub use Rattle.dwarf_read_core.specs.Grammar.{children_byte, IsCode, IsHead, IsDeclaration, IsImplicit, ByCode}
pub use Rattle.dwarf_read_core.specs.Grammar.{attribute_count, AreDeclarations}
pub use Rattle.dwarf_read_core.specs.Items.{ComesFirst}
pub use Rattle.dwarf_read_core.specs.Lookups.{UnlessCloneRanOut, Stays}
pub use Rattle.dwarf_read_core.specs.Reading.{◌>>=◌, and_others, declaration_of, number_from, specification_of}
pub use Rattle.dwarf_read_core.specs.Reading.{close_of, and_declared, is_final}
unfoldable pub use Rattle.dwarf_read_core.specs.Reading.{attributes_in, declared_at, tag_at, coded_at, declaration_at, table_in}
unfoldable pub use Rattle.dwarf_read_core.specs.Reading.{specification_at, value_at, number_at, attributes_at}
unfoldable pub use Rattle.dwarf_read_core.specs.Reading.{children_at, encoding_at, table_at}
pub use Rattle.dwarf_read_core.specs.Sections.{debug_abbrev_reader}
pub use Rattle.dwarf_read_core.specs.Contributions.{Remaining, Contribution, RepresentsContributions, followed_remaining}
pub use Rattle.dwarf_read_core.proofs.Outcomes.{HasOutcome, returned, failed, outcome-bind, outcome-map}
pub use Rattle.dwarf_read_core.proofs.Outcomes.{gives_err, Err-no_Ok, outcome-cond, outcome-ok}
