-- A specification that is read, or its error, is what the grammar says, and conversely.
use Rattle.dwarf_read_core.proofs.Common.{common_steps, ◌≡◌, ℕ, ◌<◌, ◌≤◌, true, eqb, ℤ, List, [], ◌++◌, length, Option, Some, None, Ok, refl, subst, append_assoc, arith, length-append, eqb-true, eqb-false, eq-eqb, ne_eqb, AttributeNameZero, AttributeFormZero, Kind, unsigned16, signed64, IsLeb128, Specification, Declaration, implicit_const, IsImplicit, IsSpecification, IsNull, IsFront, IsBeginning, before_name, before_form, before_value, HasError, number_cut, number_bad, name_zero, form_zero, number_at, value_at, specification_of, specification_at, HasOutcome, returned, failed, outcome-bind, outcome-cond, outcome-map}
use Rattle.dwarf_read_core.proofs.tables.ReadingNumbers.{encoding-nonempty, number-positive, number_at-string, number_outcome, number_shorter, Found}

-- ---- what is read, value or error, is in the grammar

-- a number is read after the beginning of a declaration, or an error of both together
pub number_after : (k : Kind) (end : ℕ) (front bytes whole : List ℕ) → whole ≡ front ++ bytes → IsBeginning front k
    → HasOutcome (λ x. Found k bytes x.0 x.1) (HasError end whole) (number_at k end bytes)
number_after k end front bytes whole parts begins =
    outcome-map (λ x f. f) (λ e f. grind (arith, number_cut, number_bad)) (number_outcome k end bytes)

-- the value of an attribute of this form, if it has one, is at the front of bytes, and this remains
pub record ValueFound (form : ℕ) (bytes : List ℕ) (value : Option ℤ) (rest : List ℕ) : Type 0 where
  pub front : List ℕ
  pub parts : bytes ≡ front ++ rest
  pub is_value : IsImplicit form front value

-- a value is read after a form, or an error of what begins the declaration and the value together
value_after : (end form : ℕ) (front bytes whole : List ℕ) → whole ≡ front ++ bytes
    → (form ≡ implicit_const → IsBeginning front signed64)
    → HasOutcome (λ (x : Option ℤ × List ℕ). ValueFound form bytes x.0 x.1) (HasError end whole)
    (value_at end form bytes)
unfolding value_at
value_after end form front bytes whole parts begins =
    outcome-cond (eqb form implicit_const)
    (λ t. let is = eqb-true form implicit_const t in
    outcome-bind _ (number_after signed64 end front bytes whole parts (begins is))
    (λ v f. returned (Some v.0, v.1) (record { front = f.front; parts = f.parts; is_value = (is, f.string) })))
    (λ t. returned (None, bytes)
    (record { front = []; parts = refl; is_value = (eqb-false form implicit_const t, refl) }))

-- a specification is at the front of bytes, and this remains
pub record SpecificationFound (bytes : List ℕ) (s : Specification) (rest : List ℕ) : Type 0 where
  pub front : List ℕ
  pub parts : bytes ≡ front ++ rest
  pub is_specification : IsSpecification front s

-- the null specification is at the front of bytes, and this remains
pub record NullFound (bytes rest : List ℕ) : Type 0 where
  pub front : List ℕ
  pub parts : bytes ≡ front ++ rest
  pub is_null : IsNull front

-- a specification, or the null one, is at the front of bytes, and this remains
abbrev pub SomeFound : List ℕ → Option Specification → List ℕ → Type 0
SomeFound bytes None rest = NullFound bytes rest
SomeFound bytes (Some s) rest = SpecificationFound bytes s rest

-- a specification is read after the front of a declaration, or the null one, or an error of both together
pub specification_after : (end : ℕ) (front bytes whole : List ℕ) (d : Declaration) → whole ≡ front ++ bytes
    → IsFront front d
    → HasOutcome (λ (x : Option Specification × List ℕ). SomeFound bytes x.0 x.1) (HasError end whole)
    (specification_at end bytes)
unfolding specification_at
specification_after end front bytes whole d parts is =
    outcome-bind _ (number_after unsigned16 end front bytes whole parts (before_name front d is)) (λ name n.
    outcome-bind _ (number_after unsigned16 end (front ++ n.front) name.1 whole
    (rw (parts, n.parts) (simp append_assoc)) (before_form front n.front d name.0 is n.string)) (λ form f.
    let grouped : whole ≡ front ++ n.front ++ f.front ++ form.1 = rw (parts, n.parts, f.parts) (simp append_assoc) in
    let no_name : eqb name.0 0 ≡ true → IsLeb128 unsigned16 n.front 0 =
    λ s. subst (IsLeb128 unsigned16 n.front) (eqb-true name.0 0 s) n.string in
    let no_form : eqb form.0 0 ≡ true → IsLeb128 unsigned16 f.front 0 =
    λ t. subst (IsLeb128 unsigned16 f.front) (eqb-true form.0 0 t) f.string in
    outcome-cond (eqb name.0 0)
    (λ s. outcome-cond (eqb form.0 0)
    (λ t. returned (None, form.1) (record {
      front = n.front ++ f.front;
      parts = rw (n.parts, f.parts) (simp append_assoc);
      is_null = record { name = n.front; form = f.front; parts = refl; is_name = no_name s; is_form = no_form t };
    }))
    (λ t. failed AttributeNameZero (rw grouped
    (name_zero front n.front f.front form.1 d form.0 is (no_name s) f.string (number-positive form.0 t)))))
    (λ s. outcome-cond (eqb form.0 0)
    (λ t. failed AttributeFormZero (rw grouped
    (form_zero front n.front f.front form.1 d name.0 is n.string (number-positive name.0 s) (no_form t))))
    (λ t. outcome-bind _ (value_after end form.0 (front ++ n.front ++ f.front) form.1 whole grouped (λ e.
    before_value front n.front f.front d name.0 is n.string (number-positive name.0 s)
    (subst (IsLeb128 unsigned16 f.front) e f.string)))
    (λ value v. returned (Some (specification_of name.0 form.0 value.0), value.1) (record {
      front = n.front ++ f.front ++ v.front;
      parts = rw (n.parts, f.parts, v.parts) (simp append_assoc);
      is_specification = record {
        name = n.front;
        form = f.front;
        value = v.front;
        parts = refl;
        is_name = n.string;
        is_form = f.string;
        named = number-positive name.0 s;
        formed = number-positive form.0 t;
        is_value = v.is_value;
      };
    }))))))

-- ---- what is in the grammar is read

-- the bytes of the value after a form are read as that value, whatever follows
value_read_again : (end form : ℕ) (bytes rest : List ℕ) (value : Option ℤ) → IsImplicit form bytes value
    → value_at end form (bytes ++ rest) ≡ Ok (value, rest)
unfolding value_at
value_read_again end form bytes rest None h = rw (ne_eqb form implicit_const h.0, h.1) refl
value_read_again end form bytes rest (Some v) h =
    rw (eq-eqb form implicit_const h.0, number_at-string signed64 end bytes rest v h.1) refl

-- the bytes of a specification are read as that specification, whatever follows
pub specification_again : (end : ℕ) (bytes rest : List ℕ) (s : Specification) → IsSpecification bytes s
    → specification_at end (bytes ++ rest) ≡ Ok (Some s, rest)
unfolding specification_at
specification_again end bytes rest s is =
    let name = number_at-string unsigned16 end is.name (is.form ++ (is.value ++ rest)) s.name is.is_name in
    let form = number_at-string unsigned16 end is.form (is.value ++ rest) s.form is.is_form in
    grind (arith, append_assoc, name, form, value_read_again end s.form is.value rest s.value is.is_value)

-- the bytes of the null specification are read as the null one, whatever follows
pub null_again : (end : ℕ) (bytes rest : List ℕ) → IsNull bytes → specification_at end (bytes ++ rest) ≡ Ok (None, rest)
unfolding specification_at
null_again end bytes rest is =
    let name = number_at-string unsigned16 end is.name (is.form ++ rest) 0 is.is_name in
    let form = number_at-string unsigned16 end is.form rest 0 is.is_form in
    rw (is.parts, append_assoc is.name is.form rest, name, form) refl

-- ---- the length of a specification

-- a specification has at least two bytes
pub specification_long : (s : Specification) (bytes : List ℕ) → IsSpecification bytes s → 2 ≤ length bytes
specification_long s bytes is = grind (arith, common_steps, encoding-nonempty, length-append)

-- the null specification has at least two bytes
pub null_long : (bytes : List ℕ) → IsNull bytes → 2 ≤ length bytes
null_long bytes is = grind (arith, common_steps, encoding-nonempty, length-append)

-- fewer bytes remain after a specification that is found, or the null one
pub found_shorter : (bytes : List ℕ) (o : Option Specification) (rest : List ℕ) → SomeFound bytes o rest
    → length rest < length bytes
found_shorter bytes o rest f = grind (arith, common_steps, null_long, length-append, specification_long)

-- fewer bytes remain after a specification that is read, or the null one
pub specification_shorter : (end : ℕ) (bytes : List ℕ) (o : Option Specification) (rest : List ℕ)
    → specification_at end bytes ≡ Ok (o, rest) → length rest < length bytes
unfolding specification_at value_at
specification_shorter end bytes o rest e = grind (arith, number_shorter)
