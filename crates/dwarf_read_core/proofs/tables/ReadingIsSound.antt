-- A declaration that is read, or its error, is what the grammar says.
use Rattle.dwarf_read_core.proofs.Common.{common_steps, ◌≡◌, ◌≢◌, ℕ, ◌<◌, Bool, true, false, eqb, List, [], ◌∷◌, ◌++◌, length, Option, Some, None, Ok, refl, sym, ap, subst, append_assoc, arith, eqb-true, eqb-false, length-append, append-nil, nil_from_length, AbbreviationTagZero, InvalidAbbreviationChildren, unsigned64, unsigned16, IsLeb128, eof, Declaration, children_byte, IsCode, IsHead, IsFront, IsDeclaration, before_code, before_tag, HasError, children_cut, tag_zero, children_bad, tag_at, children_at, declaration_of, declared_at, coded_at, declaration_at, HasOutcome, returned, failed, outcome-bind, outcome-cond, outcome-map, outcome-ok}
use Rattle.dwarf_read_core.proofs.tables.ReadingNumbers.{encoding-nonempty, number-positive, Found}
use Rattle.dwarf_read_core.proofs.tables.ReadingSpecifications.{number_after}
use Rattle.dwarf_read_core.proofs.tables.ReadingAttributes.{attributes_after}

-- a tag above 0 is at the front of bytes, and this remains
pub record TagFound (bytes : List ℕ) (tag : ℕ) (rest : List ℕ) : Type 0 where
  pub found : Found unsigned16 bytes tag rest
  pub tagged : 0 < tag

-- a tag is read after a code, or an error of both together
tag_after : (end : ℕ) (front bytes whole : List ℕ) (code : ℕ) → whole ≡ front ++ bytes → IsCode front code
    → HasOutcome (λ x. TagFound bytes x.0 x.1) (HasError end whole) (tag_at end bytes)
unfolding tag_at
tag_after end front bytes whole code parts is =
    outcome-bind _ (number_after unsigned16 end front bytes whole parts (before_tag front code is)) (λ x f.
    outcome-cond (eqb x.0 0)
    (λ t. failed AbbreviationTagZero (rw (parts, f.parts, sym (append_assoc front f.front x.1))
    (tag_zero front f.front x.1 code is (subst (IsLeb128 unsigned16 f.front) (eqb-true x.0 0 t) f.string))))
    (λ t. returned x (record { found = f; tagged = number-positive x.0 t })))

-- a flag for children is read after a code and a tag, or an error of all of them together
children_after : (end : ℕ) (front bytes whole : List ℕ) (code tag : ℕ) → whole ≡ front ++ bytes → IsHead front code tag
    → HasOutcome (λ (x : Bool × List ℕ). bytes ≡ children_byte x.0 ∷ x.1) (HasError end whole) (children_at end bytes)
unfolding children_at
children_after end front [] whole code tag parts is =
    failed (eof end) (rw (parts, append-nil front) (children_cut front code tag is))
children_after end front (b ∷ bytes) whole code tag parts is =
    outcome-cond (eqb b 0) (λ s. returned (false, bytes) (ap (λ (c : ℕ). c ∷ bytes) (eqb-true b 0 s)))
    (λ s. outcome-cond (eqb b 1) (λ t. returned (true, bytes) (ap (λ (c : ℕ). c ∷ bytes) (eqb-true b 1 t)))
    (λ t. let n = eqb-false b 0 s in let m = eqb-false b 1 t in
    failed (InvalidAbbreviationChildren (record { 0 = b }))
    (rw parts (children_bad front bytes code tag b is (omega arith)))))

-- a declaration is at the front of bytes, and this remains
pub record DeclarationFound (bytes : List ℕ) (d : Declaration) (rest : List ℕ) : Type 0 where
  pub front : List ℕ
  pub parts : bytes ≡ front ++ rest
  pub is_declaration : IsDeclaration front d

-- what follows a code is read, a declaration together with the code, or an error of both together
declared_after : (end code : ℕ) (front bytes whole : List ℕ) → whole ≡ front ++ bytes → IsCode front code
    → HasOutcome (λ x. DeclarationFound whole x.0 x.1) (HasError end whole) (declared_at end code bytes)
unfolding declared_at
declared_after end code front bytes whole parts is =
    outcome-bind _ (tag_after end front bytes whole code parts is) (λ tag t.
    let head = front ++ t.found.front in
    let after_head : whole ≡ head ++ tag.1 = rw (parts, t.found.parts) (simp append_assoc) in
    let f = t.found in
    let is_head : IsHead head code tag.0 =
    record { first = front; second = f.front; parts = refl; is_code = is; is_tag = f.string; tagged = t.tagged } in
    outcome-bind _ (children_after end head tag.1 whole code tag.0 after_head is_head) (λ children h.
    let byte = children_byte children.0 in
    let after_byte : whole ≡ (head ++ byte ∷ []) ++ children.1 = rw (after_head, h) (simp append_assoc) in
    outcome-bind _ (attributes_after end (head ++ byte ∷ []) children.1 whole (declaration_of code tag.0 children.0 [])
    after_byte (record { head = head; specifications = []; parts = refl; is_head = is_head; are_attributes = refl }))
    (λ attributes s.
    let d = declaration_of code tag.0 children.0 attributes.0 in
    let bytes = head ++ byte ∷ s.specifications in
    let is_front : IsFront bytes d =
    record { head = head; specifications = s.specifications; parts = refl; is_head = is_head; are_attributes = s.are }
    in
    returned (d, attributes.1) (record {
      front = bytes ++ s.null;
      parts = rw (after_byte, s.parts) (simp append_assoc);
      is_declaration = record { front = bytes; null = s.null; parts = refl; is_front = is_front; is_null = s.is_null };
    }))))

-- a code of value 0 is at the front of bytes, and this remains
pub record ZeroFound (bytes rest : List ℕ) : Type 0 where
  pub front : List ℕ
  pub parts : bytes ≡ front ++ rest
  pub is_zero : IsLeb128 unsigned64 front 0

-- the table ends: no bytes remain, or a code of value 0 is at the front
pub data EndFound : List ℕ → List ℕ → Type 0 where
  at_end : EndFound [] []
  at_zero : (bytes rest : List ℕ) → ZeroFound bytes rest → EndFound bytes rest

-- a declaration, or the end of the table, is at the front of bytes, and this remains
abbrev pub EntryFound : List ℕ → Option Declaration → List ℕ → Type 0
EntryFound bytes None rest = EndFound bytes rest
EntryFound bytes (Some d) rest = DeclarationFound bytes d rest

-- a declaration or the end of the table is read at the front of bytes, or an error, and then there are bytes
pub declaration_outcome : (end : ℕ) (bytes : List ℕ)
    → HasOutcome (λ (x : Option Declaration × List ℕ). EntryFound bytes x.0 x.1)
    (λ e. (bytes ≢ []) × HasError end bytes e) (declaration_at end bytes)
unfolding declaration_at coded_at
declaration_outcome end bytes =
    outcome-cond (eqb (length bytes) 0)
    (λ t. let none : bytes ≡ [] = nil_from_length bytes (eqb-true (length bytes) 0 t) in
    returned (None, bytes) (subst (λ (b : List ℕ). EndFound b b) (sym none) at_end))
    (λ t. outcome-map (λ x f. f) (λ e f. ((λ h. eqb-false (length bytes) 0 t (ap length h)), f))
    (outcome-bind _ (number_after unsigned64 end [] bytes bytes refl before_code) (λ code f.
    outcome-cond (eqb code.0 0)
    (λ z. returned (None, code.1) (at_zero bytes code.1 (record {
      front = f.front;
      parts = f.parts;
      is_zero = subst (IsLeb128 unsigned64 f.front) (eqb-true code.0 0 z) f.string;
    })))
    (λ z. outcome-bind _ (declared_after end code.0 f.front code.1 bytes f.parts
    (record { is_code = f.string; nonzero = number-positive code.0 z })) (λ d h. returned (Some d.0, d.1) h)))))

-- ---- fewer bytes remain after a declaration

-- fewer bytes remain after a declaration that is found
pub declaration_found_shorter : (bytes : List ℕ) (d : Declaration) (rest : List ℕ) → DeclarationFound bytes d rest
    → length rest < length bytes
declaration_found_shorter bytes d rest f = grind (arith, common_steps, length-append, encoding-nonempty)

-- fewer bytes remain after a declaration that is read
pub declaration_shorter : (end : ℕ) (bytes : List ℕ) (d : Declaration) (rest : List ℕ)
    → declaration_at end bytes ≡ Ok (Some d, rest) → length rest < length bytes
declaration_shorter end bytes d rest e =
    declaration_found_shorter bytes d rest (outcome-ok (declaration_outcome end bytes) (Some d, rest) e)
