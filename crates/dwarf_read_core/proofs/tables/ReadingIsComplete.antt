-- What the grammar has at the front is read, and so is each of its errors.
use Rattle.dwarf_read_core.proofs.Common.{common_steps, ◌≡◌, ◌≢◌, ℕ, Bool, eqb, List, [], ◌∷◌, ◌++◌, Option, Some, None, Result, Ok, Err, refl, sym, ap, ◌∙◌, append_assoc, arith, ne_eqb, append-nil, nil_from_length, Error, AttributeNameZero, AttributeFormZero, Kind, unsigned64, unsigned16, overflow_error, IsLeb128, eof, Declaration, implicit_const, children_byte, IsCode, IsHead, IsFront, IsDeclaration, IsBeginning, before_code, before_tag, before_name, before_form, before_value, HasError, number_cut, number_bad, children_cut, tag_zero, children_bad, name_zero, form_zero, ◌>>=◌, number_at, value_at, specification_at, attributes_in, tag_at, children_at, declaration_of, declared_at, coded_at, declaration_at}
use Rattle.dwarf_read_core.proofs.tables.ReadingNumbers.{encoding-begins, positive-nonzero, number_at-string, number_at-cut, number_at-bad}
use Rattle.dwarf_read_core.proofs.tables.ReadingAttributes.{with_front, AttributesRead, attributes_fail, attributes_again, attributes_end}

-- what reading a declaration or the end of a table returns
abbrev EntryRead : Type 0
EntryRead = Result (Option Declaration × List ℕ) Error

-- what it returns where a declaration, or its error, was read
abbrev found : Result (Declaration × List ℕ) Error → EntryRead
found read = read >>= λ d. Ok (Some d.0, d.1)

-- what it returns after a code and a tag that were read
abbrev after_tag : ℕ → ℕ → ℕ → List ℕ → EntryRead
after_tag end code tag bytes =
    found (children_at end bytes >>= λ children. attributes_in end children.1 >>= λ attributes. Ok
    (declaration_of code tag children.0 attributes.0, attributes.1))

-- what it returns after the attributes that were read
abbrev after_attributes : ℕ → ℕ → Bool → AttributesRead → EntryRead
after_attributes code tag children read =
    found (read >>= λ attributes. Ok (declaration_of code tag children attributes.0, attributes.1))

-- ---- field by field

-- a declaration that begins with a code above 0 is read as that code and what follows it
code_again : (end : ℕ) (front rest : List ℕ) (code : ℕ) → IsCode front code
    → declaration_at end (front ++ rest) ≡ found (declared_at end code rest)
unfolding declaration_at coded_at
code_again end front rest code is =
    let some = encoding-begins front rest is.is_code.encoding in
    rw (some, number_at-string unsigned64 end front rest code is.is_code, positive-nonzero code is.nonzero) refl

-- a declaration that begins with a code and a tag is read as these two and what follows the tag
head_again : (end : ℕ) (front rest : List ℕ) (code tag : ℕ) → IsHead front code tag
    → declaration_at end (front ++ rest) ≡ after_tag end code tag rest
unfolding declared_at tag_at
head_again end front rest code tag is =
    rw (is.parts, append_assoc, code_again end is.first (is.second ++ rest) code is.is_code)
    (rw (number_at-string unsigned16 end is.second rest tag is.is_tag, positive-nonzero tag is.tagged) refl)

-- the byte for children is read as what it says, and the rest remains
children_again : (end : ℕ) (children : Bool) (rest : List ℕ)
    → children_at end (children_byte children ∷ rest) ≡ Ok (children, rest)
unfolding children_at
children_again end children rest = grind arith

-- a declaration that begins with a front is read as that front and the attributes after it
front_again : (end : ℕ) (front rest : List ℕ) (d : Declaration) → IsFront front d
    → declaration_at end (front ++ rest)
    ≡ after_attributes d.code d.tag d.children (with_front d.attributes (attributes_in end rest))
front_again end front rest d is =
    let again = attributes_again end is.specifications rest d.attributes is.are_attributes in
    let following = children_byte d.children ∷ (is.specifications ++ rest) in
    rw (is.parts, append_assoc, head_again end is.head following d.code d.tag is.is_head)
    (rw (children_again end d.children (is.specifications ++ rest), again) refl)

-- the bytes of a declaration are read as that declaration, and the rest remains
pub declaration_again : (end : ℕ) (bytes rest : List ℕ) (d : Declaration) → IsDeclaration bytes d
    → declaration_at end (bytes ++ rest) ≡ Ok (Some d, rest)
declaration_again end bytes rest d is =
    rw (is.parts, append_assoc, front_again end is.front (is.null ++ rest) d is.is_front)
    (rw (attributes_end end is.null rest is.is_null, append-nil) refl)

-- a code of value 0 is read as the end of the table, and the rest remains
pub zero_again : (end : ℕ) (bytes rest : List ℕ) → IsLeb128 unsigned64 bytes 0
    → declaration_at end (bytes ++ rest) ≡ Ok (None, rest)
unfolding declaration_at coded_at
zero_again end bytes rest is =
    rw (encoding-begins bytes rest is.encoding, number_at-string unsigned64 end bytes rest 0 is) refl

-- the end of the bytes is read as the end of the table
pub end_again : (end : ℕ) → declaration_at end [] ≡ Ok (None, [])
unfolding declaration_at
end_again end = refl

-- ---- errors

-- a declaration fails with the error of a specification after its front
front_fails : (end : ℕ) (front bytes : List ℕ) (d : Declaration) (e : Error) → IsFront front d
    → specification_at end bytes ≡ Err e → declaration_at end (front ++ bytes) ≡ Err e
front_fails end front bytes d e is q = front_again end front bytes d is ∙ rw (attributes_fail end bytes e q) refl

-- a declaration fails with the error of a number after its beginning, unless there are no bytes
stops : {k : Kind} {front : List ℕ} (end : ℕ) (bytes : List ℕ) (e : Error) → IsBeginning front k
    → front ++ bytes ≢ [] → number_at k end bytes ≡ Err e → declaration_at end (front ++ bytes) ≡ Err e
unfolding declaration_at coded_at declared_at tag_at specification_at value_at
stops end bytes e before_code some q = grind (arith, common_steps, eqb, ne_eqb, nil_from_length)
stops end bytes e (before_tag front code is) some q = rw (code_again end front bytes code is, q) refl
stops end bytes e (before_name front d is) some q = front_fails end front bytes d e is (rw q refl)
stops end bytes e (before_form front name d n is is_name) some q =
    rw append_assoc (front_fails end front (name ++ bytes) d e is
    (rw (number_at-string unsigned16 end name bytes n is_name, q) refl))
stops end bytes e (before_value front name form d n is is_name named is_form) some q =
    let read_name = number_at-string unsigned16 end name (form ++ bytes) n is_name in
    let read_form = number_at-string unsigned16 end form bytes implicit_const is_form in
    simp append_assoc (front_fails end front (name ++ (form ++ bytes)) d e is
    (rw (read_name, read_form, positive-nonzero n named, q) refl))

-- bytes that begin like a declaration and then have an error are read as that error, unless there are none
pub error_again : {bytes : List ℕ} {e : Error} (end : ℕ) → HasError end bytes e → bytes ≢ []
    → declaration_at end bytes ≡ Err e
unfolding tag_at children_at declared_at specification_at
error_again end (number_cut front bytes k b c) some = stops end bytes (eof end) b some (number_at-cut k end bytes c)
error_again end (number_bad front bytes k b c) some =
    stops end bytes (overflow_error k) b some (number_at-bad k end bytes c)
error_again end (children_cut front code tag is) some =
    ap (declaration_at end) (sym (append-nil front)) ∙ head_again end front [] code tag is
error_again end (tag_zero front tag rest code is zero_tag) some =
    rw (append_assoc, code_again end front (tag ++ rest) code is)
    (rw (number_at-string unsigned16 end tag rest 0 zero_tag) refl)
error_again end (children_bad front rest code tag byte is lt) some =
    rw (head_again end front (byte ∷ rest) code tag is)
    (rw (ne_eqb byte 0 (λ e. omega arith), ne_eqb byte 1 (λ e. omega arith)) refl)
error_again end (name_zero front name form rest d f is is_name is_form formed) some =
    let read_name = number_at-string unsigned16 end name (form ++ rest) 0 is_name in
    let read_form = number_at-string unsigned16 end form rest f is_form in
    simp append_assoc (front_fails end front (name ++ (form ++ rest)) d AttributeNameZero is
    (rw (read_name, read_form, positive-nonzero f formed) refl))
error_again end (form_zero front name form rest d n is is_name named is_form) some =
    let read_name = number_at-string unsigned16 end name (form ++ rest) n is_name in
    let read_form = number_at-string unsigned16 end form rest 0 is_form in
    simp append_assoc (front_fails end front (name ++ (form ++ rest)) d AttributeFormZero is
    (rw (read_name, read_form, positive-nonzero n named) refl))
