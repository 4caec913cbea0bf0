-- How C sees an error: its number, and the position or value that it carries.
use Rattle.std.specs.Prelude.{◌≡◌, ◌<◌, ◌^◌, ℕ, Option, Some, None, IfSome}
use Rattle.std.specs.Option.{option_map_or}
use Rattle.dwarf_read_core.specs.declared.Error.{Error}
use Rattle.dwarf_read_core.specs.declared.Error.TheVariants.{UnexpectedEof, BadUnsignedLeb128, BadSignedLeb128, AbbreviationTagZero, InvalidAbbreviationChildren, AttributeNameZero, AttributeFormZero, DuplicateAbbreviationCode, UnknownReservedLength, UnsupportedOffset, UnknownVersion, UnsupportedAddressSize, UnsupportedSegmentSize, UnsupportedOffsetSize, BadUtf8, AddressOverflow, UnsupportedRegister, OutOfMemory, UnterminatedAbbreviations, UnknownUnitType}
use Rattle.dwarf_fault.specs.declared.DwarfFault.{DwarfFault}

-- the number of an error, and the position or value that it carries, if any, with a bound of its type; all errors of
-- higher layers have the same number
abbrev pub number_and_value : Error → ℕ × Option (ℕ × ℕ)
-- bytes are missing; the value is the position
number_and_value (UnexpectedEof position) = (1, Some (position.0, 2 ^ 64))
-- an unsigned LEB128 number is too long or too large
number_and_value BadUnsignedLeb128 = (2, None)
-- a signed LEB128 number is too long or out of range
number_and_value BadSignedLeb128 = (3, None)
-- the tag of an abbreviation is 0
number_and_value AbbreviationTagZero = (4, None)
-- the byte that says whether there are children is neither 0 nor 1; the value is the byte
number_and_value (InvalidAbbreviationChildren value) = (5, Some (value.0, 2 ^ 8))
-- the name of an attribute is 0, and its form isn't
number_and_value AttributeNameZero = (6, None)
-- the form of an attribute is 0, and its name isn't
number_and_value AttributeFormZero = (7, None)
-- an abbreviation has the code of an earlier one; the value is the code
number_and_value (DuplicateAbbreviationCode code) = (8, Some (code, 2 ^ 64))
-- the length of a set or a unit is reserved; the value is that length
number_and_value (UnknownReservedLength length) = (9, Some (length, 2 ^ 32))
-- a number doesn't fit an offset
number_and_value UnsupportedOffset = (10, None)
-- the version of a set isn't 5, or that of a unit isn't 2 to 5; the value is the version
number_and_value (UnknownVersion version) = (11, Some (version, 2 ^ 64))
-- addresses don't have this size, which is the value
number_and_value (UnsupportedAddressSize size) = (12, Some (size, 2 ^ 8))
-- the segment size of a set isn't 0; the value is the size
number_and_value (UnsupportedSegmentSize size) = (13, Some (size, 2 ^ 8))
-- offsets don't have this size, which is the value; no call returns it
number_and_value (UnsupportedOffsetSize size) = (14, Some (size, 2 ^ 8))
-- a string isn't UTF-8; no call returns it
number_and_value BadUtf8 = (15, None)
-- the sum of an address and a length is no address; no call returns it
number_and_value AddressOverflow = (16, None)
-- the number of a register doesn't fit 16 bits; the value is that number; no call returns it
number_and_value (UnsupportedRegister register) = (17, Some (register, 2 ^ 64))
-- memory ran out
number_and_value OutOfMemory = (18, None)
-- only the section's end closes a table; the value is the position; no call for C returns it
number_and_value (UnterminatedAbbreviations position) = (19, Some (position.0, 2 ^ 64))
-- the type of a unit isn't one of DWARF 5; the value is the type
number_and_value (UnknownUnitType value) = (20, Some (value.0, 2 ^ 8))
-- an error of a higher layer
number_and_value _ = (255, None)

-- the number of an error
abbrev pub error_number : Error → ℕ
error_number error = (number_and_value error).0

-- the position or the value that an error carries, or 0
abbrev pub error_value : Error → ℕ
error_value error = option_map_or (λ carried. carried.0) (number_and_value error).1 0

-- an error as C sees it
abbrev pub fault_of : Error → DwarfFault
fault_of error = record { kind = error_number error; value = error_value error }

-- the error has a number of its own: from 100 on there are other statuses
abbrev pub IsKnown : Error → Type 0
IsKnown error = error_number error < 100

-- a number and a value tell an error: the number is its own, and the value is the one that it carries, if any
pub record Tells (fault : DwarfFault) (error : Error) : Type 0 where
  pub known : IsKnown error
  pub numbered : fault.kind ≡ error_number error
  pub valued : IfSome (number_and_value error).1 (λ carried. (fault.value ≡ carried.0) × (carried.0 < carried.1))

-- a number and a value mean the error that they tell, or none if they tell no error
abbrev pub Means : DwarfFault → Option Error → Type 0
Means fault (Some error) = Tells fault error
Means fault None = (error : Error) → Tells fault error → ⊥

-- a call returns an error with the property: the status is its number, and `fault` has its number and value
pub record Reports (Holds : Error → Type 0) (status : ℕ) (fault : DwarfFault) : Type 0 where
  pub error : Error
  pub holds : Holds error
  pub numbered : status ≡ error_number error
  pub reported : fault ≡ fault_of error
