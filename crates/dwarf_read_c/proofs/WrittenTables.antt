-- Consecutive declarations, as they are written, and places that suffice for them.
use Rattle.std.proofs.Common.{set}
use Rattle.std.proofs.lemmas.Nat.{le-div}
use Rattle.std.proofs.lemmas.List.{length-map}
use Rattle.std.proofs.lemmas.List.Sums.{sum_by-cons}
use Rattle.dwarf_read_core.specs.Answer.{FitsIn}
use Rattle.dwarf_read_core.specs.Grammar.{Table, attribute_count}
use Rattle.dwarf_read_c.specs.Tables.{LacksRoom, measure_of}
use Rattle.dwarf_read_c.specs.declared.rows.DwarfAbbreviation.{DwarfAbbreviation}
use Rattle.dwarf_read_c.proofs.Common.{◌≡◌, ℕ, suc, ◌+◌, ◌-◌, ◌/◌, ◌<◌, ◌≤◌, inl, inr, List, [], ◌∷◌, ◌++◌, length, refl, sym, ap, ◌∙◌, arith, sum_by, take, common_steps, entries, len, values, len-entries, Input, Declaration, ByCode, abbreviation_of, laid_from}

-- how many attributes declarations have together
abbrev pub attributes_count : List Declaration → ℕ
attributes_count ds = sum_by (λ d. length d.attributes) ds

-- a table has as many declarations as its map has entries
pub length-values : (by_code : ByCode) → length (values by_code) ≡ len by_code
length-values by_code = length-map (entries by_code) (λ e. e.1) ∙ sym (len-entries by_code)

-- declarations are as many abbreviations
pub length-laid_from : (first : ℕ) (ds : List Declaration) → length (laid_from first ds) ≡ length ds
length-laid_from first [] = refl
length-laid_from first (d ∷ ds) = ap suc (length-laid_from (first + length d.attributes) ds)

-- one more declaration is one more abbreviation, whose attributes begin after the others
pub laid_next : (first : ℕ) (ds : List Declaration) (d : Declaration)
    → laid_from first (ds ++ d ∷ []) ≡ laid_from first ds ++ abbreviation_of (first + attributes_count ds) d ∷ []
laid_next first [] d = grind arith
laid_next first (x ∷ ds) d =
    let counted : first + length x.attributes + attributes_count ds
    ≡ first + attributes_count (x ∷ ds) = rw sum_by-cons (omega arith) in
    rw (laid_next (first + length x.attributes) ds d, counted)

-- the abbreviation of the next declaration is written after those so far
pub laid_set : (ds : List Declaration) (d : Declaration) (places : List DwarfAbbreviation) (index first : ℕ)
    → take index places ≡ laid_from 0 ds → index < length places → first ≡ attributes_count ds
    → take (index + 1) (set places index (abbreviation_of first d)) ≡ laid_from 0 (ds ++ d ∷ [])
laid_set ds d places index first placed within counted = grind (arith, common_steps, laid_next)

-- a place for every five bytes from an offset on, and one for every two, are enough for a table that fits into them
pub rooms-enough : (section : Input) (offset end : ℕ) (t : Table) (rows attributes : ℕ) → FitsIn section offset t
    → (length section.bytes - offset) / 5 ≤ rows → (length section.bytes - offset) / 2 ≤ attributes
    → LacksRoom (measure_of t end) rows attributes → ⊥
rooms-enough section offset end t rows attributes fits enough more (inl few) =
    let most = le-div (len t.by_code) (length section.bytes - offset) 5 (omega arith) (omega (arith, fits)) in
    omega (arith, most, enough, few)
rooms-enough section offset end t rows attributes fits enough more (inr few) =
    let most = le-div (attribute_count t.by_code) (length section.bytes - offset) 2 (omega arith) (omega (arith, fits)) in
    omega (arith, most, more, few)

-- how consecutive abbreviations are written
pub ruleset table_steps = (common_steps, length-values, length-laid_from)
