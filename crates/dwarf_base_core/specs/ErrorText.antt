-- What an error prints.
use Rattle.std.specs.Prelude.{ℕ, List, ◌++◌, codes, false}
use Rattle.std.specs.Fmt.{decimal, digits}
use Rattle.dwarf_base_core.specs.declared.error.Error.{Error}
use Rattle.dwarf_base_core.specs.declared.error.Error.TheVariants.{Io, PcRelativePointerButSectionBaseIsUndefined, TextRelativePointerButTextBaseIsUndefined, DataRelativePointerButDataBaseIsUndefined, FuncRelativePointerInBadContext, CannotParseOmitPointerEncoding, BadUnsignedLeb128, BadSignedLeb128, AbbreviationTagZero, AttributeNameZero, AttributeFormZero, InvalidAbbreviationChildren, UnknownForm, DuplicateAbbreviationCode, UnknownReservedLength, UnknownVersion, InvalidAbbreviationCode, UnexpectedEof, UnknownLocListsEntry, UnknownRangeListsEntry, UnsupportedAddressSize, UnsupportedOffsetSize, MinimumInstructionLengthZero, MaximumOperationsPerInstructionZero, LineRangeZero, OpcodeBaseZero, BadUtf8, NotCieId, NotCiePointer, BadBranchTarget, InvalidPushObjectAddress, NotEnoughStackItems, TooManyIterations, InvalidExpression, UnsupportedEvaluation, InvalidPiece, InvalidExpressionTerminator, DivisionByZero, TypeMismatch, IntegralTypeRequired, UnsupportedTypeOperation, InvalidShiftExpression, InvalidDerefSize, InvalidPieceSize, UnknownCallFrameInstruction, InvalidCfiSetLoc, AddressOverflow, CfiInstructionInInvalidContext, PopWithEmptyStack, NoUnwindInfoForAddress, UnsupportedOffset, UnknownPointerEncoding, NoEntryAtGivenOffset, OffsetOutOfBounds, UnknownAugmentation, UnsupportedPointerEncoding, UnsupportedIndirectPointer, UnsupportedRegister, TooManyRegisterRules, StackFull, UnknownUnitType, UnsupportedSegmentSize, MissingUnitDie, MissingSplitUnit, UnsupportedAttributeForm, MissingFileEntryFormatPath, ExpectedStringAttributeValue, InvalidImplicitConst, UnsupportedIndexSectionCount, InvalidIndexSlotCount, InvalidIndexRow, UnknownIndexSection, UnknownIndexSectionV2, InvalidMacinfoType, InvalidMacroType, UnsupportedOpcodeOperandsTable, InvalidNameAttributeIndex, OutOfMemory, UnterminatedAbbreviations}

-- the lower-case hexadecimal digits of a number, with no leading zero
abbrev pub hexadecimal : ℕ → List ℕ
hexadecimal n = digits 16 false n

-- the text of each error; a value that isn't shown has no part in it
abbrev pub error_text : Error → List ℕ
error_text Io = codes "I/O error"
error_text PcRelativePointerButSectionBaseIsUndefined = codes "undefined section base for DW_EH_PE_pcrel pointer"
error_text TextRelativePointerButTextBaseIsUndefined = codes "undefined text base for DW_EH_PE_textrel pointer"
error_text DataRelativePointerButDataBaseIsUndefined = codes "undefined data base for DW_EH_PE_datarel pointer"
error_text FuncRelativePointerInBadContext = codes "invalid context for DW_EH_PE_funcrel pointer"
error_text CannotParseOmitPointerEncoding = codes "invalid encoding for required pointer: DW_EH_PE_omit"
error_text BadUnsignedLeb128 = codes "unsigned LEB128 overflow"
error_text BadSignedLeb128 = codes "signed LEB128 overflow"
error_text AbbreviationTagZero = codes "invalid abbreviation tag: zero"
error_text AttributeNameZero = codes "invalid attribute name: zero"
error_text AttributeFormZero = codes "invalid attribute form: zero"
error_text (InvalidAbbreviationChildren value) = codes "invalid abbreviation children: 0x" ++ hexadecimal value.0
error_text (UnknownForm value) = codes "unknown attribute form: 0x" ++ hexadecimal value.0
error_text (DuplicateAbbreviationCode value) = codes "duplicate abbreviation code: " ++ decimal value
error_text (UnknownReservedLength value) = codes "unknown reserved length: 0x" ++ hexadecimal value
error_text (UnknownVersion value) = codes "unknown DWARF version: " ++ decimal value
error_text (InvalidAbbreviationCode value) = codes "invalid abbreviation code: " ++ decimal value
error_text (UnexpectedEof _) = codes "unexpected end of input"
error_text (UnknownLocListsEntry value) = codes "unknown location lists entry: 0x" ++ hexadecimal value.0
error_text (UnknownRangeListsEntry value) = codes "unknown range lists entry: 0x" ++ hexadecimal value.0
error_text (UnsupportedAddressSize value) = codes "unsupported address size: " ++ decimal value
error_text (UnsupportedOffsetSize value) = codes "unsupported offset size: " ++ decimal value
error_text MinimumInstructionLengthZero = codes "invalid minimum line instruction length: zero"
error_text MaximumOperationsPerInstructionZero = codes "invalid maximum operations per line instruction: zero"
error_text LineRangeZero = codes "invalid line range: zero"
error_text OpcodeBaseZero = codes "invalid line opcode base: zero"
error_text BadUtf8 = codes "invalid UTF-8"
error_text (NotCieId value) = codes "invalid CIE at offset 0x" ++ hexadecimal value ++ codes ": missing CIE ID"
error_text (NotCiePointer value) = codes "invalid FDE at offset 0x" ++ hexadecimal value ++ codes ": missing CIE pointer"
error_text (BadBranchTarget _) = codes "invalid expression branch target"
error_text InvalidPushObjectAddress = codes "undefined object address for DW_OP_push_object_address"
error_text NotEnoughStackItems = codes "expression stack underflow"
error_text TooManyIterations = codes "exceeded maximum expression iterations"
error_text (InvalidExpression value) = codes "unknown expression opcode: 0x" ++ hexadecimal value.0
error_text UnsupportedEvaluation = codes "unsupported evaluation operation"
error_text InvalidPiece = codes "invalid expression: piece followed by non-piece"
error_text (InvalidExpressionTerminator _) = codes "invalid expression terminator"
error_text DivisionByZero = codes "division by zero"
error_text TypeMismatch = codes "invalid operand type: mismatch"
error_text IntegralTypeRequired = codes "invalid operand type: integral required"
error_text UnsupportedTypeOperation = codes "unsupported operand type"
error_text InvalidShiftExpression = codes "invalid shift amount"
error_text (InvalidDerefSize value) = codes "invalid deref size: " ++ decimal value
error_text (InvalidPieceSize value) = codes "invalid piece size: " ++ decimal value
error_text (UnknownCallFrameInstruction value) = codes "unknown call frame instruction: 0x" ++ hexadecimal value.0
error_text (InvalidCfiSetLoc value) = codes "invalid DW_CFA_set_loc: address 0x" ++ hexadecimal value ++ codes " goes backward"
error_text AddressOverflow = codes "address overflow"
error_text CfiInstructionInInvalidContext = codes "invalid context for call frame instruction"
error_text PopWithEmptyStack = codes "invalid DW_CFA_restore_state: empty stack"
error_text NoUnwindInfoForAddress = codes "no unwind info for address"
error_text UnsupportedOffset = codes "offset overflow"
error_text (UnknownPointerEncoding value) = codes "unknown pointer encoding: 0x" ++ hexadecimal value.0
error_text (NoEntryAtGivenOffset value) = codes "no entry at offset: 0x" ++ hexadecimal value
error_text (OffsetOutOfBounds value) = codes "invalid offset: 0x" ++ hexadecimal value
error_text UnknownAugmentation = codes "unknown CFI augmentation"
error_text (UnsupportedPointerEncoding value) = codes "unsupported pointer encoding: 0x" ++ hexadecimal value.0
error_text UnsupportedIndirectPointer = codes "unsupported indirect pointer"
error_text (UnsupportedRegister value) = codes "unsupported register: 0x" ++ hexadecimal value
error_text TooManyRegisterRules = codes "too many CFI register rules"
error_text StackFull = codes "CFI stack overflow"
error_text (UnknownUnitType value) = codes "unknown unit type: 0x" ++ hexadecimal value.0
error_text (UnsupportedSegmentSize value) = codes "unsupported segment size: " ++ decimal value
error_text MissingUnitDie = codes "missing unit DIE"
error_text MissingSplitUnit = codes "missing split compilation unit"
error_text (UnsupportedAttributeForm value) = codes "unsupported attribute form: 0x" ++ hexadecimal value.0
error_text MissingFileEntryFormatPath = codes "missing file entry format path"
error_text ExpectedStringAttributeValue = codes "invalid attribute form for string"
error_text InvalidImplicitConst = codes "invalid indirect attribute form: DW_FORM_implicit_const"
error_text (UnsupportedIndexSectionCount value) = codes "unsupported DWP section count: " ++ decimal value
error_text (InvalidIndexSlotCount value) = codes "invalid DWP slot count: 0x" ++ hexadecimal value
error_text (InvalidIndexRow value) = codes "invalid DWP row index: 0x" ++ hexadecimal value
error_text (UnknownIndexSection value) = codes "unknown DWP section type: 0x" ++ hexadecimal value.0
error_text (UnknownIndexSectionV2 value) = codes "unknown DWP v2 section type: 0x" ++ hexadecimal value.0
error_text (InvalidMacinfoType value) = codes "unknown macinfo type: 0x" ++ hexadecimal value.0
error_text (InvalidMacroType value) = codes "unknown macro type: 0x" ++ hexadecimal value.0
error_text UnsupportedOpcodeOperandsTable = codes "unsupported macro opcode operands table"
error_text (InvalidNameAttributeIndex value) = codes "invalid index in name attribute: 0x" ++ hexadecimal value
error_text OutOfMemory = codes "out of memory"
error_text (UnterminatedAbbreviations _) = codes "unterminated abbreviation table"
