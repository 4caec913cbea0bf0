-- When two abbreviations, or the headers of two contributions, are equal.
use Rattle.std.specs.Prelude.{◌≡◌, ◌↔◌, Bool, ◌==◌, pos, unwrap_or, IsSome}
use Rattle.std.specs.Bool.{beq}
use Rattle.std.specs.Cmp.{IsEquivalence, IsPartialEquivalence, partial_equiv_from_equiv, and_equiv, and_per, on_equiv, on_per, nat_eq_equiv, int_eq_equiv, bool_eq_equiv}
use Rattle.std.specs.Cmp.Lexicographic.{pointwise, lists_equiv}
use Rattle.std.specs.Ordering.{int_eq, eq_of_both, on}
use Rattle.dwarf_base_core.specs.Format.{word_size}
use Rattle.dwarf_read_core.specs.Grammar.{Specification, Declaration, implicit_const}
use Rattle.dwarf_read_core.specs.Contributions.{ContributionOf}

-- equal names, forms and values, where a missing value counts as 0
abbrev pub same_specification : Specification → Specification → Bool
same_specification =
    eq_of_both (on (λ s. s.name) ◌==◌) (eq_of_both (on (λ s. s.form) ◌==◌)
    (on (λ s. unwrap_or s.value (pos 0)) int_eq))

-- equal codes, tags, children and specifications
abbrev pub same_declaration : Declaration → Declaration → Bool
same_declaration =
    eq_of_both (on (λ d. d.children) beq)
    (eq_of_both (on (λ d. d.code) ◌==◌) (eq_of_both (on (λ d. d.tag) ◌==◌)
    (on (λ d. d.attributes) (pointwise same_specification))))

-- a specification has a value exactly if its form has one in the table, as in each `AttributeSpecification`
abbrev pub HasValueByForm : Specification → Type 0
HasValueByForm s = IsSome s.value ↔ (s.form ≡ implicit_const)

same_specification_equiv : IsEquivalence same_specification
same_specification_equiv =
    and_equiv (on_equiv (λ (s : Specification). s.name) nat_eq_equiv)
    (and_equiv (on_equiv (λ (s : Specification). s.form) nat_eq_equiv)
    (on_equiv (λ (s : Specification). unwrap_or s.value (pos 0)) int_eq_equiv))

pub same_declaration_equiv : IsEquivalence same_declaration
same_declaration_equiv =
    and_equiv (on_equiv (λ (d : Declaration). d.children) bool_eq_equiv)
    (and_equiv (on_equiv (λ (d : Declaration). d.code) nat_eq_equiv)
    (and_equiv (on_equiv (λ (d : Declaration). d.tag) nat_eq_equiv)
    (on_equiv (λ (d : Declaration). d.attributes) (lists_equiv same_specification_equiv))))

-- equal offsets, lengths, formats, headers and entries
abbrev pub same_contribution : {H E : Type 0} → (H → H → Bool) → (E → E → Bool) → ContributionOf H E
    → ContributionOf H E → Bool
same_contribution same_header same_entries =
    eq_of_both (on (λ s. s.offset) ◌==◌)
    (eq_of_both (on (λ s. s.unit_length) ◌==◌) (eq_of_both (on (λ s. word_size s.format) ◌==◌)
    (eq_of_both (on (λ s. s.header) same_header) (on (λ s. s.entries) same_entries))))

pub same_contribution_per : {H E : Type 0} {same_header : H → H → Bool} {same_entries : E → E → Bool}
    → IsEquivalence same_header → IsPartialEquivalence same_entries
    → IsPartialEquivalence (same_contribution same_header same_entries)
same_contribution_per {H} {E} header entries =
    and_per (on_per (λ (s : ContributionOf H E). s.offset) (partial_equiv_from_equiv nat_eq_equiv))
    (and_per (on_per (λ (s : ContributionOf H E). s.unit_length) (partial_equiv_from_equiv nat_eq_equiv))
    (and_per (on_per (λ (s : ContributionOf H E). word_size s.format) (partial_equiv_from_equiv nat_eq_equiv))
    (and_per (on_per (λ (s : ContributionOf H E). s.header) (partial_equiv_from_equiv header))
    (on_per (λ (s : ContributionOf H E). s.entries) entries))))

pub same_contribution_equiv : {H E : Type 0} {same_header : H → H → Bool} {same_entries : E → E → Bool}
    → IsEquivalence same_header → IsEquivalence same_entries
    → IsEquivalence (same_contribution same_header same_entries)
same_contribution_equiv {H} {E} header entries =
    and_equiv (on_equiv (λ (s : ContributionOf H E). s.offset) nat_eq_equiv)
    (and_equiv (on_equiv (λ (s : ContributionOf H E). s.unit_length) nat_eq_equiv)
    (and_equiv (on_equiv (λ (s : ContributionOf H E). word_size s.format) nat_eq_equiv)
    (and_equiv (on_equiv (λ (s : ContributionOf H E). s.header) header)
    (on_equiv (λ (s : ContributionOf H E). s.entries) entries))))
