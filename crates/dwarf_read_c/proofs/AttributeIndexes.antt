-- The attributes of an abbreviation are those of the table from its index on.
use Rattle.dwarf_read_c.proofs.Common.{◌≡◌, ℕ, suc, ◌+◌, List, [], ◌∷◌, ◌++◌, length, take, drop, map, refl, sym, subst, arith, length-append, values, Declaration}
use Rattle.std.proofs.Common.{zero, Some, append_assoc}
use Rattle.std.specs.Prelude.{slice_get}
use Rattle.std.proofs.lemmas.List.{length-map}
use Rattle.dwarf_read_core.specs.Grammar.{Table}
use Rattle.dwarf_read_c.specs.Tables.{abbreviation_of, abbreviations_of, attribute_of, attributes_in, attributes_of, laid_from}
use Rattle.dwarf_read_c.specs.declared.rows.DwarfAbbreviation.{DwarfAbbreviation}
use Rattle.dwarf_read_c.specs.declared.rows.DwarfAttributeSpec.{DwarfAttributeSpec}
use Rattle.dwarf_read_c.proofs.LaidOut.{part_after}

-- the attributes of a declaration, as C sees them
abbrev own : Declaration → List DwarfAttributeSpec
own d = map attribute_of d.attributes

-- what an abbreviation with an index says: the declaration with that index, and its attributes among all
abbrev IsLaid : List DwarfAttributeSpec → List Declaration → ℕ → DwarfAbbreviation → Type 0
IsLaid all ds i a =
    (d : Declaration) × (slice_get ds i ≡ Some d) × (a ≡ abbreviation_of a.first_attribute d)
    × (take a.attribute_count (drop a.first_attribute all) ≡ own d)

-- each abbreviation after some attributes is laid out
laid : (before : List DwarfAttributeSpec) (ds : List Declaration) (i : ℕ) (a : DwarfAbbreviation)
    → slice_get (laid_from (length before) ds) i ≡ Some a → IsLaid (before ++ attributes_in ds) ds i a
laid before [] i a found = absurd cc
laid before (d ∷ ds) zero a found =
    let is : abbreviation_of (length before) d ≡ a = grind arith in
    subst (λ (a : DwarfAbbreviation). IsLaid (before ++ attributes_in (d ∷ ds)) (d ∷ ds) 0 a) is
    (d, refl, refl, part_after before (own d) (attributes_in ds) (length d.attributes) (sym (length-map d.attributes attribute_of)))
laid before (d ∷ ds) (suc i) a found =
    let longer : length before + length d.attributes ≡ length (before ++ own d) =
    omega (arith, length-append before (own d), length-map d.attributes attribute_of) in
    let rest : IsLaid ((before ++ own d) ++ attributes_in ds) ds i a =
    laid (before ++ own d) ds i a (subst (λ n. slice_get (laid_from n ds) i ≡ Some a) longer found) in
    subst (λ (all : List DwarfAttributeSpec). IsLaid all ds i a) (append_assoc before (own d) (attributes_in ds)) rest

-- the attributes of an abbreviation are those of the table from its index on
pub attributes_at : (t : Table) (i : ℕ) (a : DwarfAbbreviation) → slice_get (abbreviations_of t) i ≡ Some a
    → IsLaid (attributes_of t) (values t.by_code) i a
attributes_at t i a found = laid [] (values t.by_code) i a found
