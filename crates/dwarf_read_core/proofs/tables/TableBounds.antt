-- A table has no more declarations and attributes than fit its bytes.
use Rattle.dwarf_read_core.proofs.Common.{common_steps, ◌≡◌, ◌≢◌, ℕ, ◌+◌, ◌*◌, ◌≤◌, false, List, [], ◌∷◌, length, map, Ok, sym, ap, ◌∙◌, arith, is_some, sum_by, nat_cmp, nat_cmp_total, find, len, entries, entries-insert, len-insert, len-empty, len-entries, get-entries, length-append, length-drop, nil_from_length, sum_by-cons, Specification, Declaration, Sequence, IsSpecification, IsDeclaration, AllPairs, Table, by_code_of, attribute_count, IsTable, Input, Answer, table, FitsIn}
use Rattle.std.specs.FinMap.Entries.{put}
use Rattle.dwarf_read_core.proofs.tables.ReadingNumbers.{encoding-nonempty}
use Rattle.dwarf_read_core.proofs.tables.ReadingSpecifications.{specification_long, null_long}
use Rattle.dwarf_read_core.proofs.tables.CodesOnce.{distinct_rest}

-- the number of attributes that a declaration has
attributes : Declaration → ℕ
attributes d = length d.attributes

-- ---- bytes

-- specifications have at least two bytes each
specifications_long : (bytes : List ℕ) (ss : List Specification) → Sequence IsSpecification bytes ss
    → 2 * length ss ≤ length bytes
specifications_long bytes [] e = omega arith
specifications_long bytes (s ∷ ss) q =
    grind (arith, common_steps, length-append, specification_long, (specifications_long q.1 ss q.4))

-- a declaration has at least five bytes, and two more for each attribute
declaration_long : (bytes : List ℕ) (d : Declaration) → IsDeclaration bytes d
    → 5 + 2 * length d.attributes ≤ length bytes
declaration_long bytes d is =
    grind (arith, common_steps, encoding-nonempty, null_long, specifications_long, attributes, length-append)

-- declarations have at least five bytes each, and two more for each attribute
declarations_long : (bytes : List ℕ) (ds : List Declaration) → Sequence IsDeclaration bytes ds
    → 5 * length ds + 2 * sum_by (λ d. length d.attributes) ds ≤ length bytes
declarations_long bytes [] e = omega arith
declarations_long bytes (d ∷ ds) q =
    grind (
      arith,
      common_steps,
      length-append,
      declaration_long,
      sum_by-cons,
      attributes,
      (declarations_long q.1 ds q.4),
    )

-- ---- tables

-- how many attributes the declarations of entries have together
abbrev total : List (ℕ × Declaration) → ℕ
total es = sum_by (λ d. length d.attributes) (map (λ e. e.1) es)

-- inserting a declaration at a new key adds its attributes to the total
total_put : (k : ℕ) (d : Declaration) (es : List (ℕ × Declaration)) → is_some (find nat_cmp k es) ≡ false
    → total (put nat_cmp k d es) ≡ length d.attributes + total es
total_put k d [] none = sum_by-cons (λ (x : Declaration). length x.attributes) d []
total_put k d (e ∷ es) none = grind (arith, common_steps, attributes, sum_by-cons, (total_put k d es))

-- the map of declarations with distinct codes has as many entries as there are declarations
pub len_is : (ds : List Declaration) → AllPairs (λ d later. d.code ≢ later.code) ds → len (by_code_of ds) ≡ length ds
len_is [] h = len-empty nat_cmp Declaration
len_is (d ∷ ds) h =
    let (fresh, rest) = distinct_rest d ds h in
    grind (arith, (len-insert {X = Declaration} nat_cmp_total), (len_is ds rest))

-- the map of declarations with distinct codes has as many attributes as the declarations together
pub count_is : (ds : List Declaration) → AllPairs (λ d later. d.code ≢ later.code) ds
    → attribute_count (by_code_of ds) ≡ sum_by (λ d. length d.attributes) ds
count_is [] h = ap total (nil_from_length _ (sym (len-entries (by_code_of [])) ∙ len-empty nat_cmp Declaration))
count_is (d ∷ ds) h =
    let (fresh, rest) = distinct_rest d ds h in
    let new = ap is_some (sym (get-entries (by_code_of ds) d.code)) ∙ fresh in
    let more = total_put d.code d (entries (by_code_of ds)) new in
    rw (entries-insert nat_cmp_total (by_code_of ds) d.code d)
    (omega (arith, more, sum_by-cons (λ (x : Declaration). length x.attributes) d ds, count_is ds rest))

-- the bytes of a table are at least five for each declaration and two for each attribute
table_bound : {bytes : List ℕ} {t : Table} → IsTable bytes t
    → 5 * len t.by_code + 2 * attribute_count t.by_code ≤ length bytes
table_bound h = grind (arith, len_is, count_is, declarations_long, length-append)

-- a section with a table at an offset has five bytes there for each declaration and two for each attribute
pub answer_bound : {section : Input} {offset : ℕ} {t : Table} → Answer section offset (Ok t)
    → FitsIn section offset t
answer_bound {section} {offset} (table t le is) = omega (arith, table_bound is, length-drop offset section.bytes)
