-- Rows and attributes that are laid out are declarations, and stay laid out with one more.
use Rattle.std.proofs.Common.{append_assoc, zero, All, ◌==◌, get_or, take-append-drop}
use Rattle.std.proofs.lemmas.List.{length-map, map-append, take_more, drop-append-le, take-append-le, take_all, nil_from_length}
use Rattle.std.proofs.lemmas.List.Concat.{length-flat_map}
use Rattle.std.proofs.lemmas.List.Sums.{sum_by-cons}
use Rattle.std.proofs.lemmas.List.Elements.{All-nil, All-cons, All-weaker, All-same, All-append, All-head, All-drop}
use Rattle.dwarf_read_core.specs.Equality.{HasValueByForm}
use Rattle.dwarf_read_core.specs.Grammar.{Specification, attribute_count, by_code_of}
use Rattle.dwarf_read_core.proofs.public.Tables.{count_is, len_is}
use Rattle.dwarf_read_core.specs.Others.{at_place}
use Rattle.dwarf_read_c.specs.Laid.{AreKept, AreLaid, AreRising, all_attributes, declaration_from, laid_out}
use Rattle.dwarf_read_c.specs.Tables.{attribute_of, attributes_in, bit_of}
use Rattle.dwarf_read_c.specs.declared.rows.DwarfAbbreviation.{DwarfAbbreviation}
use Rattle.dwarf_read_c.proofs.RisingCodes.{rising-values}
use Rattle.dwarf_read_c.proofs.WrittenTables.{attributes_count, laid_next}
use Rattle.dwarf_read_c.proofs.Common.{◌≡◌, ◌∙◌, Bool, true, false, ℕ, suc, ◌+◌, ◌<◌, ◌≤◌, List, [], ◌∷◌, ◌++◌, length, take, drop, map, refl, sym, ap, subst, arith, common_steps, length-append, length-drop, abbreviation_of, laid_from, Declaration, len, values}

-- what is after a list is what is appended to it
pub rest_after : {X : Type 0} (before after : List X) → drop (length before) (before ++ after) ≡ after
rest_after before after =
    let none : drop (length before) before ≡ [] =
    nil_from_length _ (omega (arith, length-drop (length before) before)) in
    drop-append-le (length before) before after (omega arith) ∙ ap (λ front. front ++ after) none

-- the part of a list after others
pub part_after : {X : Type 0} (before part after : List X) (n : ℕ) → n ≡ length part
    → take n (drop (length before) (before ++ (part ++ after))) ≡ part
part_after before part after n counted =
    ap (take n) (rest_after before (part ++ after)) ∙ ap (λ k. take k (part ++ after)) counted
    ∙ take-append-le (length part) part after (omega arith) ∙ take_all (length part) part (omega arith)

-- whether there are children is read back from their byte
children_again : (children : Bool) → (bit_of children == 1) ≡ children
children_again true = refl
children_again false = refl

-- a declaration is read back from its row and the attributes from its first on
declaration_again : (before after : List Specification) (d : Declaration)
    → declaration_from (before ++ (d.attributes ++ after)) (abbreviation_of (length before) d) ≡ d
declaration_again before after d =
    let own = part_after before d.attributes after (length d.attributes) refl in
    rw (own, children_again d.children) refl

-- declarations are read back from their rows and attributes
laid_again_after : (before : List Specification) (ds : List Declaration)
    → laid_out (before ++ all_attributes ds) (laid_from (length before) ds) ≡ ds
laid_again_after before [] = refl
laid_again_after before (d ∷ ds) =
    let longer : length before + length d.attributes ≡ length (before ++ d.attributes) =
    sym (length-append before d.attributes) in
    let regrouped : before ++ (d.attributes ++ all_attributes ds) ≡ (before ++ d.attributes) ++ all_attributes ds =
    sym (append_assoc before d.attributes (all_attributes ds)) in
    let others : laid_out (before ++ (d.attributes ++ all_attributes ds))
    (laid_from (length before + length d.attributes) ds) ≡ ds =
    rw (regrouped, longer) (laid_again_after (before ++ d.attributes) ds) in
    rw (declaration_again before (all_attributes ds) d, others) refl

-- all declarations are read back from their rows and attributes
pub laid_again : (ds : List Declaration) → laid_out (all_attributes ds) (laid_from 0 ds) ≡ ds
laid_again ds = laid_again_after [] ds

-- declarations are laid out by their rows and attributes
laid_of : (ds : List Declaration) → All HasValueByForm (all_attributes ds)
    → AreLaid (all_attributes ds) (laid_from 0 ds)
laid_of ds valued =
    let again = sym (laid_again ds) in
    record { heads = ap (laid_from 0) again; lists = ap all_attributes again; valued = valued }

-- declarations have as many attributes together as are in one list
pub counted_attributes : (ds : List Declaration) → length (all_attributes ds) ≡ attributes_count ds
counted_attributes ds = length-flat_map (λ (d : Declaration). d.attributes) ds

-- one more declaration is one more row, whose attributes are after the others
more_rows : (attributes : List Specification) (rows : List DwarfAbbreviation) (d : Declaration)
    → AreLaid attributes rows
    → rows ++ abbreviation_of (length attributes) d ∷ [] ≡ laid_from 0 (laid_out attributes rows ++ d ∷ [])
more_rows attributes rows d is =
    let ds = laid_out attributes rows in
    let first : length attributes ≡ 0 + attributes_count ds =
    omega (arith, ap length is.lists, counted_attributes ds) in
    let row = abbreviation_of (0 + attributes_count ds) d in
    let step : rows ++ row ∷ [] ≡ laid_from 0 ds ++ row ∷ [] =
    ap (λ (front : List DwarfAbbreviation). front ++ row ∷ []) is.heads in
    rw first (step ∙ sym (laid_next 0 ds d))

-- the attributes of one more declaration are after the others
more_attributes : (attributes : List Specification) (rows : List DwarfAbbreviation) (d : Declaration)
    → AreLaid attributes rows
    → attributes ++ d.attributes ≡ all_attributes (laid_out attributes rows ++ d ∷ [])
more_attributes attributes rows d is = grind (arith, common_steps, is.lists)

-- one more row with its attributes is one more declaration
pub laid_push : (attributes : List Specification) (rows : List DwarfAbbreviation) (d : Declaration)
    → AreLaid attributes rows
    → laid_out (attributes ++ d.attributes) (rows ++ abbreviation_of (length attributes) d ∷ [])
    ≡ laid_out attributes rows ++ d ∷ []
laid_push attributes rows d is =
    rw (more_rows attributes rows d is, more_attributes attributes rows d is)
    (laid_again (laid_out attributes rows ++ d ∷ []))

-- rows and attributes stay laid out with one more declaration
pub laid_more : (attributes : List Specification) (rows : List DwarfAbbreviation) (d : Declaration)
    → AreLaid attributes rows → All HasValueByForm d.attributes
    → AreLaid (attributes ++ d.attributes) (rows ++ abbreviation_of (length attributes) d ∷ [])
laid_more attributes rows d is valued =
    let all = All-append HasValueByForm attributes d.attributes is.valued valued in
    rw (more_rows attributes rows d is, more_attributes attributes rows d is)
    (laid_of (laid_out attributes rows ++ d ∷ []) (rw (← more_attributes attributes rows d is) all))

-- a row whose attributes end at a number of attributes, at most
abbrev EndsBy : ℕ → DwarfAbbreviation → Type 0
EndsBy n row = row.first_attribute + row.attribute_count ≤ n

-- the attributes of each row end within those of all
ends_within : (first : ℕ) (ds : List Declaration)
    → All (EndsBy (first + attributes_count ds)) (laid_from first ds)
ends_within first [] = All-nil (EndsBy (first + attributes_count []))
ends_within first (d ∷ ds) =
    let more : attributes_count (d ∷ ds) ≡ length d.attributes + attributes_count ds =
    sum_by-cons (λ (d : Declaration). length d.attributes) d ds in
    let next = first + length d.attributes in
    let own : EndsBy (first + attributes_count (d ∷ ds)) (abbreviation_of first d) = omega (arith, more) in
    let later : (row : DwarfAbbreviation) → EndsBy (next + attributes_count ds) row
    → EndsBy (first + attributes_count (d ∷ ds)) row = λ row le. omega (arith, more, le) in
    All-cons (EndsBy (first + attributes_count (d ∷ ds))) (abbreviation_of first d) (laid_from next ds) own
    (All-weaker (EndsBy (next + attributes_count ds)) (EndsBy (first + attributes_count (d ∷ ds))) later
    (laid_from next ds) (ends_within next ds))

-- the attributes of a row end within those that are laid out
laid_within : (attributes : List Specification) (rows before after : List DwarfAbbreviation)
    (row : DwarfAbbreviation) → AreLaid attributes rows → rows ≡ before ++ row ∷ after
    → EndsBy (length attributes) row
laid_within attributes rows before after row is parts =
    let ds = laid_out attributes rows in
    let counted : length attributes ≡ 0 + attributes_count ds =
    omega (arith, ap length is.lists, counted_attributes ds) in
    let all : All (EndsBy (length attributes)) (before ++ row ∷ after) =
    All-same (EndsBy (length attributes)) (before ++ row ∷ after) (laid_from 0 ds) (sym parts ∙ is.heads)
    (rw counted (ends_within 0 ds)) in
    let rest : All (EndsBy (length attributes)) (row ∷ after) =
    subst (All (EndsBy (length attributes))) (rest_after before (row ∷ after))
    (All-drop (EndsBy (length attributes)) (length before) (before ++ row ∷ after) all) in
    All-head (EndsBy (length attributes)) row after rest

-- the attributes of the row at an index end within those that are laid out
pub row_within : (attributes : List Specification) (rows : List DwarfAbbreviation) (i : ℕ) (none : DwarfAbbreviation)
    → AreLaid attributes rows → i < length rows → EndsBy (length attributes) (get_or rows i none)
row_within attributes rows i none is within =
    let row = get_or rows i none in
    let more : take (i + 1) rows ≡ take i rows ++ row ∷ [] = take_more rows i none within in
    let parts : rows ≡ take i rows ++ row ∷ drop (i + 1) rows =
    sym (take-append-drop (i + 1) rows) ∙ ap (λ (front : List DwarfAbbreviation). front ++ drop (i + 1) rows) more
    ∙ append_assoc (take i rows) (row ∷ []) (drop (i + 1) rows) in
    laid_within attributes rows (take i rows) (drop (i + 1) rows) row is parts

-- the declarations up to an index are those before it, and that of the row there
pub laid_take : (attributes : List Specification) (rows : List DwarfAbbreviation) (i : ℕ) (none : DwarfAbbreviation)
    → i < length rows → laid_out attributes (take (i + 1) rows)
    ≡ laid_out attributes (take i rows) ++ declaration_from attributes (get_or rows i none) ∷ []
laid_take attributes rows i none within =
    ap (laid_out attributes) (take_more rows i none within)
    ∙ map-append (declaration_from attributes) (take i rows) (get_or rows i none ∷ [])

-- the declaration at an index is that of the row there
pub laid_at : (attributes : List Specification) (rows : List DwarfAbbreviation) (i : ℕ) (none : DwarfAbbreviation)
    → i < length rows → at_place (laid_out attributes rows) i ≡ declaration_from attributes (get_or rows i none)
laid_at attributes [] i none within = absurd (omega (arith, within))
laid_at attributes (a ∷ rows) zero none within = refl
laid_at attributes (a ∷ rows) (suc i) none within = laid_at attributes rows i none (omega (arith, within))

-- the abbreviation at an index is that of the declaration there
abbreviation_at : (first : ℕ) (ds : List Declaration) (i : ℕ) (none : DwarfAbbreviation) → i < length ds
    → get_or (laid_from first ds) i none
    ≡ abbreviation_of (get_or (laid_from first ds) i none).first_attribute (at_place ds i)
abbreviation_at first [] i none within = absurd (omega (arith, within))
abbreviation_at first (d ∷ ds) zero none within = refl
abbreviation_at first (d ∷ ds) (suc i) none within =
    abbreviation_at (first + length d.attributes) ds i none (omega (arith, within))

-- the row at an index is that of the declaration there
pub row_again : (attributes : List Specification) (rows : List DwarfAbbreviation) (i : ℕ) (none : DwarfAbbreviation)
    → AreLaid attributes rows → i < length rows → get_or rows i none
    ≡ abbreviation_of (get_or rows i none).first_attribute (at_place (laid_out attributes rows) i)
row_again attributes rows i none is within =
    let ds = laid_out attributes rows in
    let counted : length ds ≡ length rows = length-map rows (declaration_from attributes) in
    subst (λ (laid : List DwarfAbbreviation). get_or laid i none
    ≡ abbreviation_of (get_or laid i none).first_attribute (at_place ds i)) (sym is.heads)
    (abbreviation_at 0 ds i none (omega (arith, counted, within)))

-- the attributes of declarations, as C sees them
pub shown_attributes : (ds : List Declaration) → attributes_in ds ≡ map attribute_of (all_attributes ds)
shown_attributes [] = refl
shown_attributes (d ∷ ds) = grind (arith, common_steps, (shown_attributes ds))

-- there are as many rows and attributes as in the map of the declarations
pub laid_counts : (attributes : List Specification) (rows : List DwarfAbbreviation) (ps : List (ℕ × ℕ))
    → AreKept attributes rows ps → (length rows ≡ len (by_code_of (laid_out attributes rows)))
    × (length attributes ≡ attribute_count (by_code_of (laid_out attributes rows)))
laid_counts attributes rows ps is =
    let ds = laid_out attributes rows in (
      sym (length-map rows (declaration_from attributes)) ∙ sym (len_is ds is.distinct),
      ap length is.laid.lists ∙ counted_attributes ds ∙ sym (count_is ds is.distinct),
    )

-- rows whose codes rise are the declarations of the map, as C sees them
pub laid_rows : (attributes : List Specification) (rows : List DwarfAbbreviation) → AreLaid attributes rows
    → AreRising 0 rows → laid_from 0 (values (by_code_of (laid_out attributes rows))) ≡ rows
laid_rows attributes rows is rising = ap (laid_from 0) (rising-values attributes rows rising) ∙ sym is.heads

-- the attributes of rows whose codes rise are those of the map, as C sees them
pub laid_attributes : (attributes : List Specification) (rows : List DwarfAbbreviation) → AreLaid attributes rows
    → AreRising 0 rows
    → attributes_in (values (by_code_of (laid_out attributes rows))) ≡ map attribute_of attributes
laid_attributes attributes rows is rising =
    ap attributes_in (rising-values attributes rows rising)
    ∙ shown_attributes (laid_out attributes rows) ∙ ap (map attribute_of) (sym is.lists)
