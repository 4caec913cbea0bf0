-- The lines of abbreviation tables.
use Rattle.std.specs.Prelude.{ℕ, Bool, false, List, [], ◌++◌, ℤ, Option, Some, None, Result, codes, decimal, if◌then◌else◌}
use Rattle.std.specs.FinMap.{values}
use Rattle.std.specs.Fmt.{signed_decimal}
use Rattle.std.specs.List.{flat_map}
use Rattle.dwarf_read_core.specs.declared.Error.{Error}
use Rattle.dwarf_read_core.specs.Answer.{Answer, StrictAnswer}
use Rattle.dwarf_read_core.specs.DwAt.{attribute_text}
use Rattle.dwarf_read_core.specs.DwForm.{form_text}
use Rattle.dwarf_read_core.specs.DwTag.{tag_text}
use Rattle.dwarf_read_core.specs.Grammar.{Declaration, Specification, Table}
use Rattle.dwarf_listing_core.specs.Lines.{line}
use Rattle.dwarf_read_core.specs.Input.{section_of}
use Rattle.dwarf_listing_core.specs.Listing.{ListsBy}

-- a space and the implicit value, or nothing
abbrev pub value_text : Option ℤ → List ℕ
value_text None = []
value_text (Some value) = codes " " ++ signed_decimal value

-- the name and form of an attribute, and its implicit value
abbrev pub attribute_line : Specification → List ℕ
attribute_line s = line (codes "  " ++ attribute_text s.name ++ codes " " ++ form_text s.form ++ value_text s.value)

-- whether there are children
abbrev pub yes_or_no : Bool → List ℕ
yes_or_no has_children = if has_children then codes "yes" else codes "no"

-- the code, tag and children of a declaration, and its attributes
abbrev pub declaration_lines : Declaration → List ℕ
declaration_lines d =
    line (decimal d.code ++ codes " " ++ tag_text d.tag ++ codes " " ++ yes_or_no d.children)
    ++ flat_map attribute_line d.attributes

-- the lines of a table's declarations, in the order of their codes
abbrev pub table_text : Table → List ℕ
table_text t = flat_map declaration_lines (values t.by_code)

-- the lines of the table at an offset of a section, or the section's error
abbrev pub ListsTable : List ℕ → ℕ → Result (List ℕ) Error → Type 0
ListsTable section offset answer = ListsBy table_text (Answer (section_of section false) offset) answer

-- the lines of the table at an offset that a code of value 0 has to close, or the section's error
abbrev pub ListsStrictTable : List ℕ → ℕ → Result (List ℕ) Error → Type 0
ListsStrictTable section offset answer = ListsBy table_text (StrictAnswer (section_of section false) offset) answer
