-- A table of abbreviations, as C sees it.
use Rattle.std.specs.Prelude.{◌≡◌, ℕ, ◌+◌, ◌<◌, ◌⊎◌, List, [], ◌∷◌, map, length, Bool, true, false, unwrap_or, pos}
use Rattle.std.specs.FinMap.{len, values}
use Rattle.std.specs.List.{flat_map}
use Rattle.dwarf_read_core.specs.Input.{Input}
use Rattle.dwarf_read_core.specs.Answer.{DeclarationsEndAt, TableEndsAt}
use Rattle.dwarf_read_core.specs.Grammar.{Declaration, Specification, Table, attribute_count, is_by_null}
use Rattle.dwarf_read_c.specs.declared.rows.DwarfAbbreviation.{DwarfAbbreviation}
use Rattle.dwarf_read_c.specs.declared.rows.DwarfAttributeSpec.{DwarfAttributeSpec}
use Rattle.dwarf_read_c.specs.declared.rows.DwarfMeasure.{DwarfMeasure}

-- 1 for true, and 0 for false
abbrev pub bit_of : Bool → ℕ
bit_of true = 1
bit_of false = 0

-- how many declarations and attributes a table has, where it ends, and what closes it
abbrev pub measure_of : Table → ℕ → DwarfMeasure
measure_of t end = record {
  abbreviations = len t.by_code;
  attributes = attribute_count t.by_code;
  end = end;
  closed_by_null = bit_of (is_by_null t.close);
}

-- the measure of the table at an offset of a section
abbrev pub Measures : DwarfMeasure → Input → ℕ → Table → Type 0
Measures m section offset t = (end : ℕ) × TableEndsAt section offset t end × (m ≡ measure_of t end)

-- the measure of the declarations there before an error
abbrev pub MeasuresBefore : DwarfMeasure → Input → ℕ → Table → Type 0
MeasuresBefore m section offset t = (end : ℕ) × DeclarationsEndAt section offset t end × (m ≡ measure_of t end)

-- a specification; one without a value has the value 0
abbrev pub attribute_of : Specification → DwarfAttributeSpec
attribute_of s = record { name = s.name; form = s.form; implicit_const = unwrap_or s.value (pos 0) }

-- a declaration whose attributes begin at this index
abbrev pub abbreviation_of : ℕ → Declaration → DwarfAbbreviation
abbreviation_of first d = record {
  code = d.code;
  tag = d.tag;
  has_children = bit_of d.children;
  first_attribute = first;
  attribute_count = length d.attributes;
}

-- declarations whose attributes follow each other from this index on
abbrev pub laid_from : ℕ → List Declaration → List DwarfAbbreviation
laid_from first [] = []
laid_from first (d ∷ ds) = abbreviation_of first d ∷ laid_from (first + length d.attributes) ds

-- the declarations of a table, in the order of their codes
abbrev pub abbreviations_of : Table → List DwarfAbbreviation
abbreviations_of t = laid_from 0 (values t.by_code)

-- the attributes of consecutive declarations
abbrev pub attributes_in : List Declaration → List DwarfAttributeSpec
attributes_in ds = flat_map (λ d. map attribute_of d.attributes) ds

abbrev pub attributes_of : Table → List DwarfAttributeSpec
attributes_of t = attributes_in (values t.by_code)

-- there is less room for abbreviations, or for attributes, than the table needs
abbrev pub LacksRoom : DwarfMeasure → ℕ → ℕ → Type 0
LacksRoom measure abbreviations attributes = (abbreviations < measure.abbreviations) ⊎ (attributes < measure.attributes)
