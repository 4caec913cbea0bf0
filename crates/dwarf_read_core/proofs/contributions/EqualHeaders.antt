-- Two headers of contributions are equal exactly if all that they say is.
use Rattle.dwarf_read_core.proofs.Common.{◌≡◌, Bool, ◌↔◌, IsTrue, arith}
use Rattle.dwarf_base_core.specs.Format.{word_size}
use Rattle.dwarf_base_core.specs.declared.common.Format.{Format}
use Rattle.dwarf_read_core.specs.Contributions.{ContributionOf}
use Rattle.dwarf_read_core.specs.Equality.{same_contribution}

-- formats with words of one size are equal
format-same : (a b : Format) → word_size a ≡ word_size b → a ≡ b
format-same a b same = grind arith

-- the test finds two headers equal exactly if it finds each part equal
pub same_contribution_is_equality : {H E : Type 0} (same_header : H → H → Bool) (same_entries : E → E → Bool)
    (a b : ContributionOf H E) → IsTrue (same_contribution same_header same_entries a b)
    ↔ (a.offset ≡ b.offset) × (a.unit_length ≡ b.unit_length) × (a.format ≡ b.format)
    × IsTrue (same_header a.header b.header) × IsTrue (same_entries a.entries b.entries)
same_contribution_is_equality same_header same_entries a b =
    (λ same. grind (arith, format-same a.format b.format), λ parts. grind arith)
