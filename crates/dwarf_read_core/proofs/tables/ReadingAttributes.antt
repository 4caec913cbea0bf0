-- Reading the specifications up to the null one, as the loop does and as the grammar says.
use Rattle.dwarf_read_core.proofs.Common.{◌≡◌, ℕ, zero, suc, ◌+◌, ◌<◌, List, [], ◌∷◌, ◌++◌, length, take, Option, Some, None, Result, Ok, Err, refl, sym, ap, ◌∙◌, append_assoc, arith, append-nil, Error, Specification, Declaration, Sequence, IsSpecification, IsNull, IsFront, HasError, ◌>>=◌, specification_at, and_others, attributes_at, attributes_in, declaration_of, HasOutcome, returned, outcome-bind, common_steps}
use Rattle.std.specs.Prelude.{slice_set}
use Rattle.std.proofs.lemmas.List.{take_more_set}
use Rattle.dwarf_read_core.proofs.tables.ReadingSpecifications.{SomeFound, specification_after, specification_again, null_again, found_shorter, specification_shorter}

-- the bytes of items, with those of one more after them, are the bytes of all of them
pub Sequence-push : {A : Type 0} (Is : List ℕ → A → Type 0) (bytes : List ℕ) (xs : List A) (last : List ℕ) (x : A)
    → Sequence Is bytes xs → Is last x → Sequence Is (bytes ++ last) (xs ++ x ∷ [])
Sequence-push Is bytes [] last x e is = (last, [], rw e (sym (append-nil last)), is, refl)
Sequence-push Is bytes (y ∷ ys) last x s is =
    grind (arith, common_steps, append_assoc, (Sequence-push Is s.1 ys last x s.4 is))

-- what reading the attributes of a declaration returns: these and what remains, or an error
abbrev pub AttributesRead : Type 0
AttributesRead = Result (List Specification × List ℕ) Error

-- some specifications before those that are read
abbrev pub with_front : List Specification → AttributesRead → AttributesRead
with_front front read = read >>= λ x. Ok (front ++ x.0, x.1)

-- ---- one specification after the other

-- reading specifications has the same outcome under any two bounds above the number of bytes
attributes_enough : (n m end : ℕ) (bytes : List ℕ) → length bytes < n → length bytes < m
    → attributes_at n end bytes ≡ attributes_at m end bytes
unfolding attributes_at
attributes_enough zero m end bytes short other = absurd (omega arith)
attributes_enough (suc n) zero end bytes short other = absurd (omega arith)
attributes_enough (suc n) (suc m) end bytes short other =
    let shorter = λ (x : Option Specification × List ℕ). specification_shorter end bytes x.0 x.1 in
    grind (arith, shorter, (attributes_enough n m end))

-- reading a list of specifications is reading the first, and then the others unless it is the null one
next : (end : ℕ) (bytes : List ℕ) (x : Option Specification × List ℕ) → specification_at end bytes ≡ Ok x
    → attributes_in end bytes ≡ and_others x.0 x.1 (attributes_in end x.1)
unfolding attributes_in attributes_at
next end bytes x q =
    grind (arith, attributes_enough, (specification_shorter end bytes x.0 x.1 q))

-- reading a list of specifications fails with the error of the first one
pub attributes_fail : (end : ℕ) (bytes : List ℕ) (e : Error) → specification_at end bytes ≡ Err e
    → attributes_in end bytes ≡ Err e
unfolding attributes_in attributes_at
attributes_fail end bytes e q = grind arith

-- ---- as the loop does

-- reading after a list of specifications goes on after the list with the next one at its end
pub front-goes_on : (front : List Specification) (end : ℕ) (bytes : List ℕ) (s : Specification) (after : List ℕ)
    (total : AttributesRead) → specification_at end bytes ≡ Ok (Some s, after)
    → with_front front (attributes_in end bytes) ≡ total
    → with_front (front ++ s ∷ []) (attributes_in end after) ≡ total
front-goes_on front end bytes s after total q so_far = grind (arith, append_assoc, next end bytes (Some s, after) q)

-- reading after a list of specifications ends with that list if the null one is next
pub front-ends : (front : List Specification) (end : ℕ) (bytes : List ℕ) (o : Option Specification) (after : List ℕ)
    (total : AttributesRead) → specification_at end bytes ≡ Ok (o, after) → o ≡ None
    → with_front front (attributes_in end bytes) ≡ total → total ≡ Ok (front, after)
front-ends front end bytes o after total q none so_far = grind (arith, append-nil, next end bytes (o, after) q)

-- reading after a list of specifications fails with the error of the next one
pub front-fails : (front : List Specification) (end : ℕ) (bytes : List ℕ) (e : Error) (total : AttributesRead)
    → specification_at end bytes ≡ Err e → with_front front (attributes_in end bytes) ≡ total → total ≡ Err e
front-fails front end bytes e total q so_far = sym so_far ∙ ap (with_front front) (attributes_fail end bytes e q)

-- an empty list before what is read changes nothing
pub front-begins : (read : AttributesRead) → with_front [] read ≡ read
front-begins read = grind arith

-- ---- what is read is in the grammar

-- specifications and the null one after them are at the front of bytes, and this remains
pub record AttributesFound (bytes : List ℕ) (ss : List Specification) (rest : List ℕ) : Type 0 where
  pub specifications : List ℕ
  pub null : List ℕ
  pub parts : bytes ≡ specifications ++ null ++ rest
  pub are : Sequence IsSpecification specifications ss
  pub is_null : IsNull null

-- a declaration with more attributes after its own
abbrev pub declaration_with : Declaration → List Specification → Declaration
declaration_with d more = declaration_of d.code d.tag d.children (d.attributes ++ more)

-- the front of a declaration with the bytes of a specification after it is a front with one more attribute
front_push : (front first : List ℕ) (d : Declaration) (s : Specification) → IsFront front d
    → IsSpecification first s → IsFront (front ++ first) (declaration_with d (s ∷ []))
front_push front first d s is one = record {
  head = is.head;
  specifications = is.specifications ++ first;
  parts = ap (λ (b : List ℕ). b ++ first) is.parts ∙ simp append_assoc;
  is_head = is.is_head;
  are_attributes = Sequence-push IsSpecification is.specifications d.attributes first s is.are_attributes one;
}

-- under a bound above the bytes, specifications are read after a front, or an error of both together
after_by : (n end : ℕ) (front bytes whole : List ℕ) (d : Declaration) → whole ≡ front ++ bytes → length bytes < n
    → IsFront front d → HasOutcome (λ x. AttributesFound bytes x.0 x.1) (HasError end whole) (attributes_at n end bytes)
unfolding attributes_at
after_by zero end front bytes whole d parts short is = absurd (omega arith)
after_by (suc n) end front bytes whole d parts short is =
    outcome-bind _ (specification_after end front bytes whole d parts is) (λ first f.
    go (λ rest front. after_by n end front rest whole) first.0 first.1 f)
  where
    go : ((rest front : List ℕ) (d : Declaration) → whole ≡ front ++ rest → length rest < n → IsFront front d
        → HasOutcome (λ x. AttributesFound rest x.0 x.1) (HasError end whole) (attributes_at n end rest))
        → (o : Option Specification) (following : List ℕ) → SomeFound bytes o following
        → HasOutcome (λ x. AttributesFound bytes x.0 x.1) (HasError end whole)
        (and_others o following (attributes_at n end following))
    go others None following f =
        returned ([], following)
        (record { specifications = []; null = f.front; parts = f.parts; are = refl; is_null = f.is_null })
    go others (Some s) following f =
        outcome-bind _ (others following (front ++ f.front) (declaration_with d (s ∷ []))
        (rw (parts, f.parts) (simp append_assoc))
        (let h = found_shorter bytes (Some s) following f in omega arith)
        (front_push front f.front d s is f.is_specification))
        (λ y g. returned (s ∷ y.0, y.1) (record {
          specifications = f.front ++ g.specifications;
          null = g.null;
          parts = f.parts ∙ rw g.parts (simp append_assoc);
          are = (f.front, g.specifications, refl, f.is_specification, g.are);
          is_null = g.is_null;
        }))

-- specifications are read after a front, or an error of both together
pub attributes_after : (end : ℕ) (front bytes whole : List ℕ) (d : Declaration) → whole ≡ front ++ bytes
    → IsFront front d → HasOutcome (λ x. AttributesFound bytes x.0 x.1) (HasError end whole) (attributes_in end bytes)
unfolding attributes_in
attributes_after end front bytes whole d parts is =
    after_by (length bytes + 1) end front bytes whole d parts (omega arith) is

-- ---- what is in the grammar is read

-- the bytes of specifications are read as those, before what is read after them
pub attributes_again : (end : ℕ) (bytes rest : List ℕ) (ss : List Specification)
    → Sequence IsSpecification bytes ss → attributes_in end (bytes ++ rest) ≡ with_front ss (attributes_in end rest)
attributes_again end bytes rest [] e = rw e (sym (front-begins (attributes_in end rest)))
attributes_again end bytes rest (s ∷ ss) q =
    let h = next end (q.0 ++ (q.1 ++ rest)) (Some s, q.1 ++ rest) (specification_again end q.0 (q.1 ++ rest) s q.3) in
    grind (arith, append_assoc, h, (attributes_again end q.1 rest ss q.4))

-- the bytes of the null specification are read as an empty list, whatever follows
pub attributes_end : (end : ℕ) (bytes rest : List ℕ) → IsNull bytes → attributes_in end (bytes ++ rest) ≡ Ok ([], rest)
attributes_end end bytes rest is = next end (bytes ++ rest) (None, rest) (null_again end bytes rest is)

-- ---- where attributes are collected

-- an attribute that is put after those in the first list is after all that are collected
pub collected_push : (overflow scratch : List Specification) (n : ℕ) (s : Specification) → n < length scratch
    → overflow ++ take (n + 1) (slice_set scratch n s) ≡ (overflow ++ take n scratch) ++ s ∷ []
collected_push overflow scratch n s short =
    rw (take_more_set scratch n s short) (sym (append_assoc overflow (take n scratch) (s ∷ [])))

-- how the attributes so far change with the next specification
pub ruleset attribute_steps = (front-goes_on, front-ends, front-fails, front-begins, specification_shorter)
