-- The one result that a section has at an offset: the table there, or the first error.
use Rattle.std.specs.Prelude.{◌≡◌, ◌≢◌, ℕ, ◌+◌, ◌*◌, ◌<◌, ◌≤◌, ◌⊎◌, Bool, true, List, [], ◌∷◌, ◌++◌, length, drop, Result, Ok, Err, IsErrOf, IsTrue, ⊤, if◌then◌else◌}
use Rattle.std.specs.FinMap as finite
use Rattle.std.specs.List.{Any}
use Rattle.dwarf_base_core.specs.declared.error.Error.{Error}
use Rattle.dwarf_base_core.specs.declared.error.Error.TheVariants.{AbbreviationTagZero, InvalidAbbreviationChildren, AttributeNameZero, AttributeFormZero, DuplicateAbbreviationCode, OutOfMemory, UnterminatedAbbreviations}
use Rattle.dwarf_reader_core.specs.Leb128.{Kind, unsigned64, unsigned16, signed64, overflow_error, IsLeb128, IsTruncated, IsMalformed}
use Rattle.dwarf_reader_core.specs.Faults.{eof}
use Rattle.dwarf_reader_core.specs.Input.{Input, end_of}
use Rattle.dwarf_reader_core.specs.Appended.{IsNotEof}
use Rattle.dwarf_read_core.specs.Grammar.{ByCode, Declaration, implicit_const, Table, by_code_of, by_end, by_null, is_by_null, attribute_count, IsCode, IsHead, IsFront, IsDeclaration, AreDeclarations, IsTable, IsTableBefore}
use Rattle.dwarf_read_core.specs.Lookups.{UnlessOutOfMemory}

-- the beginning of a declaration, up to a number of this kind
pub data IsBeginning : List ℕ → Kind → Type 0 where
  before_code : IsBeginning [] unsigned64
  before_tag : (bytes : List ℕ) (code : ℕ) → IsCode bytes code → IsBeginning bytes unsigned16
  before_name : (bytes : List ℕ) (d : Declaration) → IsFront bytes d → IsBeginning bytes unsigned16
  before_form : (bytes name : List ℕ) (d : Declaration) (n : ℕ) → IsFront bytes d → IsLeb128 unsigned16 name n
      → IsBeginning (bytes ++ name) unsigned16
  before_value : (bytes name form : List ℕ) (d : Declaration) (n : ℕ) → IsFront bytes d
      → IsLeb128 unsigned16 name n → 0 < n → IsLeb128 unsigned16 form implicit_const
      → IsBeginning (bytes ++ name ++ form) signed64

-- bytes that begin like a declaration, and then have this error
pub data HasError (end : ℕ) : List ℕ → Error → Type 0 where
  number_cut : (front bytes : List ℕ) (k : Kind) → IsBeginning front k → IsTruncated k bytes
      → HasError end (front ++ bytes) (eof end)
  number_bad : (front bytes : List ℕ) (k : Kind) → IsBeginning front k → IsMalformed k bytes
      → HasError end (front ++ bytes) (overflow_error k)
  children_cut : (front : List ℕ) (code tag : ℕ) → IsHead front code tag → HasError end front (eof end)
  tag_zero : (front tag rest : List ℕ) (code : ℕ) → IsCode front code → IsLeb128 unsigned16 tag 0
      → HasError end (front ++ tag ++ rest) AbbreviationTagZero
  children_bad : (front rest : List ℕ) (code tag byte : ℕ) → IsHead front code tag → 1 < byte
      → HasError end (front ++ byte ∷ rest) (InvalidAbbreviationChildren (record { 0 = byte }))
  name_zero : (front name form rest : List ℕ) (d : Declaration) (f : ℕ) → IsFront front d
      → IsLeb128 unsigned16 name 0 → IsLeb128 unsigned16 form f → 0 < f
      → HasError end (front ++ name ++ form ++ rest) AttributeNameZero
  form_zero : (front name form rest : List ℕ) (d : Declaration) (n : ℕ) → IsFront front d
      → IsLeb128 unsigned16 name n → 0 < n → IsLeb128 unsigned16 form 0
      → HasError end (front ++ name ++ form ++ rest) AttributeFormZero

-- the first error of bytes that don't begin with a table
pub data IsFirstError (end : ℕ) : List ℕ → Error → Type 0 where
  in_declaration : (bytes rest : List ℕ) (ds : List Declaration) (e : Error) → AreDeclarations bytes ds → rest ≢ []
      → HasError end rest e → IsFirstError end (bytes ++ rest) e
  repeated : (bytes declaration rest : List ℕ) (ds : List Declaration) (d : Declaration) → AreDeclarations bytes ds
      → IsDeclaration declaration d → Any (λ other. other.code ≡ d.code) ds
      → IsFirstError end (bytes ++ declaration ++ rest) (DuplicateAbbreviationCode d.code)

-- the result for a section and an offset: the table there, or the first error
pub data Answer (section : Input) (offset : ℕ) : Result Table Error → Type 0 where
  outside : length section.bytes < offset → Answer section offset (Err (eof section.position))
  table : (t : Table) → offset ≤ length section.bytes → IsTable (drop offset section.bytes) t
      → Answer section offset (Ok t)
  first_error : (e : Error) → offset ≤ length section.bytes
      → IsFirstError (section.position + length section.bytes) (drop offset section.bytes) e
      → Answer section offset (Err e)

-- the errors that a section can have in place of a table
pub data IsTableError : Error → Type 0 where
  missing_bytes : (position : ℕ) → IsTableError (eof position)
  bad_number : (k : Kind) → IsTableError (overflow_error k)
  zero_tag : IsTableError AbbreviationTagZero
  bad_children : (byte : ℕ) → IsTableError (InvalidAbbreviationChildren (record { 0 = byte }))
  zero_name : IsTableError AttributeNameZero
  zero_form : IsTableError AttributeFormZero
  same_code : (code : ℕ) → IsTableError (DuplicateAbbreviationCode code)

-- where the table at the first offset ends: the second offset is after the code of value 0 that closes the table, or
-- at the section's end
abbrev pub TableEndsAt : Input → ℕ → Table → ℕ → Type 0
TableEndsAt section offset t end =
    (rest : List ℕ) × IsTableBefore (drop offset section.bytes) t rest × (end + length rest ≡ length section.bytes)

-- declarations at the front of bytes, by their codes, and the bytes after them
pub record BeginsWith (bytes : List ℕ) (t : ByCode) (rest : List ℕ) : Type 0 where
  pub front : List ℕ
  pub declarations : List Declaration
  pub parts : bytes ≡ front ++ rest
  pub are : AreDeclarations front declarations
  pub by_code : t ≡ by_code_of declarations

-- as many of them as there are: a declaration that follows has the code of another
pub record BeginsWithAll (bytes : List ℕ) (t : ByCode) (rest : List ℕ) : Type 0 where
  pub begins : BeginsWith bytes t rest
  pub last : (declaration others : List ℕ) (d : Declaration) → rest ≡ declaration ++ others
      → IsDeclaration declaration d → IsTrue (finite.contains_key t d.code)

-- the declarations at the first offset, as many as there are, end at the second one; an error of their table lies there
abbrev pub DeclarationsEndAt : Input → ℕ → Table → ℕ → Type 0
DeclarationsEndAt section offset t end =
    (rest : List ℕ) × BeginsWithAll (drop offset section.bytes) t.by_code rest × (t.close ≡ by_end)
    × (end + length rest ≡ length section.bytes)

-- what a call returned is the section's result at the offset, unless memory ran out
abbrev pub Answers : Result Table Error → Input → ℕ → Type 0
Answers result section offset = UnlessOutOfMemory (Answer section offset) (λ t. t) result

-- the declarations fit into the bytes from an offset on: each has at least five bytes, and each attribute two more
abbrev pub FitsIn : Input → ℕ → Table → Type 0
FitsIn section offset t =
    5 * finite.len t.by_code + 2 * attribute_count t.by_code + offset ≤ length section.bytes

-- a result that doesn't depend on where the section ends
abbrev pub IsFinal : Result Table Error → Type 0
IsFinal (Ok t) = t.close ≡ by_null
IsFinal (Err e) = (position : ℕ) → e ≢ eof position

-- the offsets at which no memory is needed: past the end, at the end, or at a code of value 0
abbrev pub TakesNoMemory : Input → ℕ → Type 0
TakesNoMemory section offset =
    (length section.bytes ≤ offset) ⊎ ((zero_code rest : List ℕ) × (drop offset section.bytes ≡ zero_code ++ rest)
    × IsLeb128 unsigned64 zero_code 0)

-- if clones can't fail, memory doesn't run out where none is needed
abbrev pub SparesMemory : {X : Type 0} → Bool → Input → ℕ → Result X Error → Type 0
SparesMemory clone_is_free section offset result =
    clone_is_free ≡ true → TakesNoMemory section offset → IsErrOf result OutOfMemory → ⊥

-- the error for a table that only the section's end, at this position, closes
abbrev pub unterminated : ℕ → Error
unterminated position = UnterminatedAbbreviations (record { 0 = position })

-- a strict reading returns an error for a table that only the section's end closes, and changes nothing else
abbrev pub strictly : Input → Result Table Error → Result Table Error
strictly section (Ok t) = if is_by_null t.close then Ok t else Err (unterminated (end_of section))
strictly section (Err e) = Err e

-- the strict result for a section and an offset
abbrev pub StrictAnswer : Input → ℕ → Result Table Error → Type 0
StrictAnswer section offset strict =
    (answer : Result Table Error) × Answer section offset answer × (strict ≡ strictly section answer)

-- what a call returned is the strict result, unless memory ran out
abbrev pub AnswersStrictly : Result Table Error → Input → ℕ → Type 0
AnswersStrictly result section offset = UnlessOutOfMemory (StrictAnswer section offset) (λ t. t) result

-- a strict result that doesn't depend on where the section ends: every table, and every error except `UnexpectedEof`
-- and `UnterminatedAbbreviations`
abbrev pub IsStrictlyFinal : Result Table Error → Type 0
IsStrictlyFinal (Ok t) = ⊤
IsStrictlyFinal (Err e) = IsNotEof e × ((position : ℕ) → e ≢ unterminated position)
