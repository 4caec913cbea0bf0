-- Functions that read tables from the front of bytes. No public clause about a result cites this file.
-- Each function returns what it read and the bytes after it, or the first error.
use Rattle.std.specs.Prelude.{◌≡◌, ℕ, zero, suc, ◌+◌, Bool, true, false, ℤ, List, [], ◌∷◌, length, Option, Some, None, Result, Ok, Err, nat_lt, ◌==◌, if◌then◌else◌}
use Rattle.std.specs.FinMap.{contains_key, insert}
use Rattle.dwarf_base_core.specs.declared.error.Error.{Error}
use Rattle.dwarf_base_core.specs.declared.error.Error.TheVariants.{AbbreviationTagZero, InvalidAbbreviationChildren, AttributeNameZero, AttributeFormZero, DuplicateAbbreviationCode, UnexpectedEof}
use Rattle.dwarf_reader_core.specs.Leb128.{Kind, Number, unsigned64, unsigned16, signed64, limit, value, is_in_range, overflow_error}
use Rattle.dwarf_reader_core.specs.Faults.{eof}
use Rattle.dwarf_reader_core.specs.Readings.{Leb128Read, Mapped, Reading, Then}
use Rattle.dwarf_read_core.specs.Grammar.{Specification, Declaration, implicit_const, ByCode, Table, closed, Close, by_null, by_end, is_by_null}
use Rattle.dwarf_read_core.specs.Lookups.{UnlessOutOfMemory}

infixl 10 ◌>>=◌
abbrev pub ◌>>=◌ : {A B : Type 0} → Result A Error → (A → Result B Error) → Result B Error
Ok x >>= f = f x
Err e >>= f = Err e

-- what a call returned, seen by a view, is what the function reads, unless memory ran out
abbrev pub ReturnsUnlessOutOfMemory : {X Y : Type 0} → (X → Y) → Result X Error → Result Y Error → Type 0
ReturnsUnlessOutOfMemory view result read = UnlessOutOfMemory (λ seen. read ≡ seen) view result

-- one more byte before the first bytes
abbrev pub with_byte : ℕ → Option (List ℕ × List ℕ) → Option (List ℕ × List ℕ)
with_byte b None = None
with_byte b (Some x) = Some (b ∷ x.0, x.1)

-- the bytes up to the first one below 128, at most n of them, and the bytes after these
unfoldable pub encoding_at : ℕ → List ℕ → Option (List ℕ × List ℕ)
encoding_at zero bytes = None
encoding_at (suc n) [] = None
encoding_at (suc n) (b ∷ bytes) = if nat_lt b 128 then Some (b ∷ [], bytes) else with_byte b (encoding_at n bytes)

abbrev pub number_from : (k : Kind) → ℕ → List ℕ → Option (List ℕ × List ℕ) → Result (Number k × List ℕ) Error
number_from k end bytes None = if nat_lt (length bytes) (limit k) then Err (eof end) else Err (overflow_error k)
number_from k end bytes (Some x) = if is_in_range k (value k x.0) then Ok (value k x.0, x.1) else Err (overflow_error k)

unfoldable pub number_at : (k : Kind) → ℕ → List ℕ → Result (Number k × List ℕ) Error
number_at k end bytes = number_from k end bytes (encoding_at (limit k) bytes)

-- a tag, which is not 0
unfoldable pub tag_at : ℕ → List ℕ → Result (ℕ × List ℕ) Error
tag_at end bytes = do
  tag ← number_at unsigned16 end bytes
  if tag.0 == 0 then Err AbbreviationTagZero else Ok tag

unfoldable pub children_at : ℕ → List ℕ → Result (Bool × List ℕ) Error
children_at end [] = Err (eof end)
children_at end (b ∷ bytes) =
    if b == 0 then Ok (false, bytes) else if b == 1 then Ok (true, bytes) else Err
    (InvalidAbbreviationChildren (record { 0 = b }))

-- the value after a form, if the form has one in the table
unfoldable pub value_at : ℕ → ℕ → List ℕ → Result (Option ℤ × List ℕ) Error
value_at end form bytes =
    if form == implicit_const then (number_at signed64 end bytes >>= λ v. Ok (Some v.0, v.1)) else Ok (None, bytes)

abbrev pub specification_of : ℕ → ℕ → Option ℤ → Specification
specification_of name form value = record { name = name; form = form; value = value }

-- a specification, or None for the null one
unfoldable pub specification_at : ℕ → List ℕ → Result (Option Specification × List ℕ) Error
specification_at end bytes = do
  name ← number_at unsigned16 end bytes
  form ← number_at unsigned16 end name.1
  if name.0 == 0 then (if form.0 == 0 then Ok
      (None, form.1) else Err AttributeNameZero) else if form.0 == 0 then Err AttributeFormZero else
      (value_at end form.0 form.1 >>= λ value. Ok (Some (specification_of name.0 form.0 value.0), value.1))

-- a reader reads two numbers of 16 bits
abbrev pub PairRead : Reading (ℕ × ℕ)
PairRead = Then (Leb128Read unsigned16) (λ name. Mapped (λ form. (name, form)) (Leb128Read unsigned16))

abbrev pub and_others : Option Specification → List ℕ → Result (List Specification × List ℕ) Error
    → Result (List Specification × List ℕ) Error
and_others None bytes others = Ok ([], bytes)
and_others (Some s) bytes others = others >>= λ x. Ok (s ∷ x.0, x.1)

-- specifications up to the null one, of fewer than n bytes
unfoldable pub attributes_at : ℕ → ℕ → List ℕ → Result (List Specification × List ℕ) Error
attributes_at zero end bytes = Err (eof end)
attributes_at (suc n) end bytes =
    specification_at end bytes >>= λ first. and_others first.0 first.1 (attributes_at n end first.1)

-- specifications up to the null one
unfoldable pub attributes_in : ℕ → List ℕ → Result (List Specification × List ℕ) Error
attributes_in end bytes = attributes_at (length bytes + 1) end bytes

abbrev pub declaration_of : ℕ → ℕ → Bool → List Specification → Declaration
declaration_of code tag children attributes =
    record { code = code; tag = tag; children = children; attributes = attributes }

-- the rest of a declaration, after its code
unfoldable pub declared_at : ℕ → ℕ → List ℕ → Result (Declaration × List ℕ) Error
declared_at end code bytes = do
  tag ← tag_at end bytes
  children ← children_at end tag.1
  attributes ← attributes_in end children.1
  Ok (declaration_of code tag.0 children.0 attributes.0, attributes.1)

-- a declaration, or None if a code of value 0 is in its place
unfoldable pub coded_at : ℕ → List ℕ → Result (Option Declaration × List ℕ) Error
coded_at end bytes =
    number_at unsigned64 end bytes >>= λ code. if code.0 == 0 then Ok (None, code.1) else
    (declared_at end code.0 code.1 >>= λ d. Ok (Some d.0, d.1))

-- a declaration, or None if the table ends there
unfoldable pub declaration_at : ℕ → List ℕ → Result (Option Declaration × List ℕ) Error
declaration_at end bytes = if length bytes == 0 then Ok (None, bytes) else coded_at end bytes

abbrev pub close_of : List ℕ → Close
close_of bytes = if length bytes == 0 then by_end else by_null

abbrev pub and_declared : Close → ByCode → Option Declaration → (ByCode → Result Table Error) → Result Table Error
and_declared close t None others = Ok (closed t close)
and_declared close t (Some d) others =
    if contains_key t d.code then Err (DuplicateAbbreviationCode d.code) else others (insert t d.code d)

-- the declarations at the front of fewer than n bytes, added to those of a table
unfoldable pub table_at : ℕ → ℕ → ByCode → List ℕ → Result Table Error
table_at zero end t bytes = Err (eof end)
table_at (suc n) end t bytes =
    declaration_at end bytes >>= λ first. and_declared (close_of bytes) t first.0
    (λ more. table_at n end more first.1)

-- the declarations at the front of the bytes, added to those of a table
unfoldable pub table_in : ℕ → ByCode → List ℕ → Result Table Error
table_in end t bytes = table_at (length bytes + 1) end t bytes

-- whether a result doesn't depend on where the section ends
abbrev pub is_final : Result Table Error → Bool
is_final (Ok t) = is_by_null t.close
is_final (Err (UnexpectedEof _)) = false
is_final (Err _) = true
