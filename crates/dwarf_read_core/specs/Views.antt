-- How fields represent a table, an abbreviation and its parts. No public clause about a result cites this file.
use Rattle.std.specs.Prelude.{◌≡◌, ◌≢◌, ◌<◌, ◌≤◌, ℕ, suc, ℤ, pos, Bool, true, false, List, [], ◌∷◌, ◌++◌, length, Some, None, unwrap_or, if◌then◌else◌, ◌==◌, refl}
use Rattle.std.specs.BTreeMap.{is_at}
use Rattle.std.specs.FinMap.{from_entries}
use Rattle.std.specs.Map.{lookup}
use Rattle.std.specs.Ordering.{nat_cmp}
use Rattle.std.proofs.Common.{sym, ap}
use Rattle.std.proofs.lemmas.Bool.{eqb-false}
use Rattle.dwarf_read_core.specs.Codes.{close_from}
use Rattle.dwarf_read_core.specs.Grammar.{Specification, Declaration, Table, closed, implicit_const}
use Rattle.dwarf_read_core.specs.declared.read.abbrev.attribute.AttributeSpecification.TheInside.{Inside}
use Rattle.dwarf_read_core.specs.declared.read.abbrev.abbreviation.Abbreviation.TheInside as abbreviation
use Rattle.dwarf_read_core.specs.declared.read.abbrev.table.Abbreviations.TheInside as abbreviations

abbrev pub specification_view : Inside → Specification
specification_view a =
    record {
      name = a.name.0;
      form = a.form.0;
      value = if a.form.0 == implicit_const then Some a.implicit_const_value else None;
    }

-- an attribute without a value has 0 in the field for the value
abbrev pub IsCanonical : Inside → Type 0
IsCanonical a = a.form.0 ≢ implicit_const → a.implicit_const_value ≡ pos 0

abbrev pub specification_fields : Specification → Inside
specification_fields s =
    record {
      name = record { 0 = s.name };
      form = record { 0 = s.form };
      implicit_const_value = unwrap_or s.value (pos 0);
    }

value_again : (form : ℕ) (v : ℤ) → (form ≢ implicit_const → v ≡ pos 0)
    → unwrap_or (if form == implicit_const then Some v else None) (pos 0) ≡ v
value_again form v h = go (form == implicit_const) refl
  where
    go : (b : Bool) → (form == implicit_const) ≡ b → unwrap_or (if b then Some v else None) (pos 0) ≡ v
    go true e = refl
    go false e = sym (h (eqb-false form implicit_const e))

pub fields_again : (a : Inside) → IsCanonical a → specification_fields (specification_view a) ≡ a
fields_again a h =
    ap (λ (v : ℤ). record { name = a.name; form = a.form; implicit_const_value = v })
    (value_again a.form.0 a.implicit_const_value h)

abbrev pub abbreviation_view : abbreviation.Inside → Declaration
abbreviation_view a =
    record { code = a.code; tag = a.tag.0; children = a.has_children.0 == 1; attributes = a.attributes.items }

-- declarations with the codes from k on
abbrev pub numbered : ℕ → List Declaration → List (ℕ × Declaration)
numbered code [] = []
numbered code (d ∷ ds) = (code, d) ∷ numbered (suc code) ds

-- the declarations of a vector with the codes from 1 on, and then the others with their codes
abbrev pub entries_of : List Declaration → List (ℕ × Declaration) → List (ℕ × Declaration)
entries_of ds es = numbered 1 ds ++ es

-- the table that a vector, the others and a close represent
abbrev pub abbreviations_view : abbreviations.Inside → Table
abbreviations_view a = closed (from_entries (entries_of a.vec.items a.others)) (close_from a.closed_by_null)

-- the other codes are above those of the vector, and each declaration has the code that finds it, which isn't 0
pub record AreKeyed (ds : List Declaration) (es : List (ℕ × Declaration)) : Type 0 where
  pub apart : (code : ℕ) → code ≤ length ds → lookup (is_at (nat_cmp code)) es ≡ None
  pub keyed : (code : ℕ) (d : Declaration) → lookup (is_at (nat_cmp code)) (entries_of ds es) ≡ Some d
      → (d.code ≡ code) × (0 < code)
