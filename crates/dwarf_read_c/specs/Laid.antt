-- Declarations in the order in which they came, as C sees them: their rows, the attributes of all of them in one list,
-- and the place of each code among the rows.
use Rattle.std.specs.Prelude.{◌≡◌, ◌≢◌, ◌==◌, ◌<◌, ℕ, List, [], ◌∷◌, All, length, map, take, drop}
use Rattle.std.specs.FinMap.{from_entries}
use Rattle.std.specs.List.{AllPairs, flat_map}
use Rattle.dwarf_read_core.specs.Equality.{HasValueByForm}
use Rattle.dwarf_read_core.specs.Grammar.{Declaration, Specification, by_code_of}
use Rattle.dwarf_read_core.specs.Others.{ArePlaces, with_places}
use Rattle.dwarf_read_c.specs.Tables.{laid_from}
use Rattle.dwarf_read_c.specs.declared.rows.DwarfAbbreviation.{DwarfAbbreviation}

-- rows whose codes rise, the first above this number
abbrev pub AreRising : ℕ → List DwarfAbbreviation → Type 0
AreRising below [] = Unit {0}
AreRising below (a ∷ rows) = (below < a.code) × AreRising a.code rows

-- the code of the last row, or this one if there is none
abbrev pub last_code : ℕ → List DwarfAbbreviation → ℕ
last_code code [] = code
last_code code (a ∷ rows) = last_code a.code rows

-- the declaration with this row, and its own among these attributes
abbrev pub declaration_from : List Specification → DwarfAbbreviation → Declaration
declaration_from attributes a = record {
  code = a.code;
  tag = a.tag;
  children = a.has_children == 1;
  attributes = take a.attribute_count (drop a.first_attribute attributes);
}

-- the declarations with these rows and attributes
abbrev pub laid_out : List Specification → List DwarfAbbreviation → List Declaration
laid_out attributes rows = map (declaration_from attributes) rows

-- the attributes of consecutive declarations
abbrev pub all_attributes : List Declaration → List Specification
all_attributes ds = flat_map (λ d. d.attributes) ds

-- rows and attributes are those of declarations
pub record AreLaid (attributes : List Specification) (rows : List DwarfAbbreviation) : Type 0 where
  pub heads : rows ≡ laid_from 0 (laid_out attributes rows)
  pub lists : attributes ≡ all_attributes (laid_out attributes rows)
  pub valued : All HasValueByForm attributes

-- each code has the place of its declaration
pub record ArePlaced (ds : List Declaration) (ps : List (ℕ × ℕ)) : Type 0 where
  pub places : ArePlaces ds ps
  pub found : by_code_of ds ≡ from_entries (with_places ds ps)

-- rows and attributes are laid out, and no code occurs twice; codes rise if they have no places, and otherwise each has
-- its place
pub record AreKept (attributes : List Specification) (rows : List DwarfAbbreviation) (ps : List (ℕ × ℕ)) :
    Type 0 where
  pub laid : AreLaid attributes rows
  pub distinct : AllPairs (λ d later. d.code ≢ later.code) (laid_out attributes rows)
  pub rising : length ps ≡ 0 → AreRising 0 rows
  pub placed : 0 < length ps → ArePlaced (laid_out attributes rows) ps
