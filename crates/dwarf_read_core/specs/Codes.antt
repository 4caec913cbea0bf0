-- Codes that tell declarations and tables apart in proofs. No public clause about a result cites this file.
-- `Model` requires such codes, and Rattle finds none by itself.
use Rattle.std.specs.Prelude.{◌≡◌, ℕ, ℤ, Bool, true, false, List, Option, refl}
use Rattle.std.specs.Coded.{Coded, code_by, coded×, coded_ℕ, coded_ℤ, coded_bool, coded_list, coded_option}
use Rattle.std.specs.FinMap.{code as map_code}
use Rattle.dwarf_read_core.specs.Grammar.{Specification, Declaration, ByCode, Close, by_null, by_end, Table, closed, is_by_null}

abbrev pub specification_code : Coded Specification
specification_code =
    code_by (ℕ × (ℕ × Option ℤ)) (coded× coded_ℕ (coded× coded_ℕ (coded_option coded_ℤ)))
    (λ s. (s.name, (s.form, s.value))) (λ p. record { name = p.0; form = p.1.0; value = p.1.1 }) (λ _. refl)

abbrev pub declaration_code : Coded Declaration
declaration_code =
    code_by (ℕ × (ℕ × (Bool × List Specification)))
    (coded× coded_ℕ (coded× coded_ℕ (coded× coded_bool (coded_list specification_code))))
    (λ d. (d.code, (d.tag, (d.children, d.attributes))))
    (λ p. record { code = p.0; tag = p.1.0; children = p.1.1.0; attributes = p.1.1.1 }) (λ _. refl)

-- what a `Bool` says of what closes a table
abbrev pub close_from : Bool → Close
close_from true = by_null
close_from false = by_end

-- what closes a table is what its `Bool` says
pub table_again : (by_code : ByCode) (close : Close)
    → closed by_code (close_from (is_by_null close)) ≡ closed by_code close
table_again by_code by_null = refl
table_again by_code by_end = refl

abbrev pub table_code : Coded Table
table_code =
    code_by (ByCode × Bool) (coded× (map_code coded_ℕ declaration_code) coded_bool)
    (λ t. (t.by_code, is_by_null t.close)) (λ p. closed p.0 (close_from p.1)) (λ t. table_again t.by_code t.close)
