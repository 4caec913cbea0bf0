-- The declarations at an offset end at one offset, and the section that is cut there has their table.
use Rattle.dwarf_read_core.proofs.Common.{◌≡◌, ◌≢◌, inl, inr, ◌∙◌, ℕ, ◌-◌, ◌+◌, ◌<◌, ◌≤◌, List, [], ◌∷◌, ◌++◌, length, take, drop, Result, Ok, Err, Some, refl, sym, ap, subst, arith, append_assoc, append-nil, length-append, length-drop, take-append-le, take_all, cases_lt, true≢false, contains_key, IsTrue, AllPairs, Error, Input, first, Declaration, Sequence, IsDeclaration, Table, closed, by_code_of, by_end, IsTable, closed_by_end, Answer, table, declaration_at}
use Rattle.dwarf_read_core.specs.Answer.{BeginsWithAll, DeclarationsEndAt}
use Rattle.dwarf_read_core.proofs.tables.CodesOnce.{distinct_front}
use Rattle.dwarf_read_core.proofs.tables.ExactlyOneAnswer.{answer_exactly_one}
use Rattle.dwarf_read_core.proofs.tables.ReadingIsComplete.{declaration_again}
use Rattle.dwarf_reader_core.proofs.public.Fronts.{first_long}
use Rattle.std.proofs.lemmas.List.{drop-take}

-- ---- there is one end

-- no declaration follows those of these codes
abbrev IsLast : List Declaration → List ℕ → Type 0
IsLast ds rest = (declaration others : List ℕ) (d : Declaration) → rest ≡ declaration ++ others
    → IsDeclaration declaration d → IsTrue (contains_key (by_code_of ds) d.code)

abbrev AreDistinct : List Declaration → Type 0
AreDistinct ds = AllPairs (λ d later. d.code ≢ later.code) ds

-- where no declaration follows, there is no other one
last-none : (seen es : List Declaration) (e : Declaration) (declaration others : List ℕ) → IsLast (seen ++ []) (declaration ++ others)
    → IsDeclaration declaration e → AreDistinct (seen ++ e ∷ es) → ⊥
last-none seen es e declaration others last is distinct =
    let has = last declaration others e refl is in
    let new = distinct_front seen es e distinct in
    true≢false (sym (rw (append-nil seen, new) at has))

-- declarations after the same ones are the same, if no other follows
runs-same : (seen : List Declaration) (front other rest following : List ℕ) (ds es : List Declaration)
    → Sequence IsDeclaration front ds → Sequence IsDeclaration other es → front ++ rest ≡ other ++ following
    → AreDistinct (seen ++ ds) → AreDistinct (seen ++ es) → IsLast (seen ++ ds) rest → IsLast (seen ++ es) following
    → (ds ≡ es) × (rest ≡ following)
runs-same seen front other rest following [] [] q r parts apart distinct last end = (refl, rw (q, r) at parts)
runs-same seen front other rest following [] (e ∷ es) q (start, more, split, is, others) parts apart distinct last end =
    let whole : rest ≡ start ++ (more ++ following) = rw (q, split, append_assoc) at parts in
    absurd (last-none seen es e start (more ++ following) (rw whole at last) is distinct)
runs-same seen front other rest following (d ∷ ds) [] (start, more, split, is, others) r parts apart distinct last end =
    let whole : following ≡ start ++ (more ++ rest) = sym (rw (r, split, append_assoc) at parts) in
    absurd (last-none seen ds d start (more ++ rest) (rw whole at end) is apart)
runs-same seen front other rest following (d ∷ ds) (e ∷ es) (start, more, split, is, others) (second, next, cut, has, those) parts apart distinct last end =
    let one : declaration_at 0 (front ++ rest) ≡ Ok (Some d, more ++ rest) =
    rw split (simp append_assoc (declaration_again 0 start (more ++ rest) d is)) in
    let two : declaration_at 0 (front ++ rest) ≡ Ok (Some e, next ++ following) =
    rw (parts, cut) (simp append_assoc (declaration_again 0 second (next ++ following) e has)) in
    let same : d ≡ e = grind (arith, one, two) in
    let left : more ++ rest ≡ next ++ following = grind (arith, one, two) in
    let regrouped = append_assoc seen (d ∷ []) ds in
    let regrouped_too : (seen ++ d ∷ []) ++ es ≡ seen ++ e ∷ es = append_assoc seen (d ∷ []) es ∙ ap (λ x. seen ++ x ∷ es) same in
    let further = runs-same (seen ++ d ∷ []) more next rest following ds es others those left
    (rw regrouped apart) (rw regrouped_too distinct) (rw regrouped last) (rw regrouped_too end) in
    (rw (same, further.0) refl, further.1)

-- the declarations at an offset are the same, and end at the same offset
pub declarations_end_once : (section : Input) (offset end other : ℕ) (t u : Table) → DeclarationsEndAt section offset t end
    → DeclarationsEndAt section offset u other → (u ≡ t) × (other ≡ end)
declarations_end_once section offset end other t u (rest, all, unclosed, sum) (following, every, unsettled, total) =
    let a = all.begins in
    let b = every.begins in
    let same = runs-same [] a.front b.front rest following a.declarations b.declarations a.are.each b.are.each
    (sym a.parts ∙ b.parts) a.are.distinct b.are.distinct (rw a.by_code at all.last) (rw b.by_code at every.last) in
    let codes : u.by_code ≡ t.by_code = b.by_code ∙ ap by_code_of (sym same.0) ∙ sym a.by_code in
    let counted = ap length same.1 in
    (λ i. closed (codes i) ((unsettled ∙ sym unclosed) i), omega (arith, sum, total, counted))

-- ---- the section that is cut there

module _ (section : Input) (offset end : ℕ) (t : Table) (within : offset ≤ length section.bytes)
    (ends : DeclarationsEndAt section offset t end) where
  -- the section that is cut after the declarations has their table
  pub declarations_of_front : Answer (first end section) offset (Ok t)
  declarations_of_front =
      let (rest, all, unclosed, sum) = ends in
      let b = all.begins in
      let long = length-drop offset section.bytes in
      let joined = ap length b.parts in
      let counted = length-append b.front rest in
      let size : end - offset ≡ length b.front = omega (arith, long, joined, counted, sum, within) in
      let enough : end ≤ length section.bytes = omega (arith, sum) in
      let split : end ≡ offset + (end - offset) = omega (arith, long, joined, counted, sum, within) in
      let parts : drop offset (take end section.bytes) ≡ b.front =
      ap (λ n. drop offset (take n section.bytes)) split ∙ drop-take offset (end - offset) section.bytes
      ∙ ap (take (end - offset)) b.parts ∙ ap (λ n. take n (b.front ++ rest)) size
      ∙ take-append-le (length b.front) b.front rest (omega arith) ∙ take_all (length b.front) b.front (omega arith) in
      let is : IsTable b.front (closed (by_code_of b.declarations) by_end) = ([], closed_by_end b.front b.declarations b.are) in
      let same : closed (by_code_of b.declarations) by_end ≡ t = λ i. closed (sym b.by_code i) (sym unclosed i) in
      table t (omega (arith, first_long end section enough, split)) (rw parts (rw same at is))

  -- in place of an error there is another declaration
  pub declarations_before_error : (e : Error) → Answer section offset (Err e) → end < length section.bytes
  declarations_before_error e is =
      elim (cases_lt end (length section.bytes)) [
        | inl before ↦ before
        | inr after ↦
            let all : first end section ≡ section =
            ap (λ bytes. let whole : Input = record section { bytes = bytes } in whole) (take_all end section.bytes after) in
            let one = answer_exactly_one section offset in
            let both = one.2 (Ok t) (rw all at declarations_of_front) ∙ sym (one.2 (Err e) is) in
            absurd cc
      ]
