-- The values of attributes: what is read for a form (DWARF 5, 7.5.4 to 7.5.6).
use Rattle.std.specs.Prelude.{◌≡◌, ◌≢◌, ◌==◌, ℕ, ℤ, true, not, Option, Some, None, Result, Ok, Err}
use Rattle.dwarf_read_core.specs.declared.Encoding.{Encoding}
use Rattle.dwarf_read_core.specs.declared.Error.{Error}
use Rattle.dwarf_read_core.specs.declared.Error.TheVariants.{InvalidImplicitConst, UnknownForm}
use Rattle.dwarf_read_core.specs.Format.{word_size}
use Rattle.dwarf_read_core.specs.Grammar.{Specification}
use Rattle.dwarf_read_core.specs.Input.{Input}
use Rattle.dwarf_read_core.specs.Leb128.{ReadsNoLeb128, ReadsLeb128, signed64, unsigned16, unsigned64}
use Rattle.dwarf_read_core.specs.Readings.{AddressRead, AsOffset, Choice, Given, Leb128Read, Mapped, NumberRead, OffsetRead, PartRead, Reading, StringRead, WordRead, ◌>>=◌}
use Rattle.dwarf_entry_core.specs.declared.form.Shape.{Shape}
use Rattle.dwarf_entry_core.specs.declared.form.Shape.TheVariants as shape
use Rattle.dwarf_entry_core.specs.declared.form.Width.{Width}
use Rattle.dwarf_entry_core.specs.declared.form.Width.TheVariants.{One, Two, Three, Four, Eight, Leb128}
use Rattle.dwarf_entry_core.specs.declared.value.AttributeValue.TheVariants as value
use Rattle.dwarf_entry_core.specs.Forms.{form_shape}
use Rattle.dwarf_entry_core.specs.Seen.{Seen}

-- ---- the parts of values

-- an unsigned number of this width
abbrev pub UnsignedRead : Width → Reading ℕ
UnsignedRead One = NumberRead 1
UnsignedRead Two = NumberRead 2
UnsignedRead Three = NumberRead 3
UnsignedRead Four = NumberRead 4
UnsignedRead Eight = NumberRead 8
UnsignedRead Leb128 = Leb128Read unsigned64

-- an unsigned number of this width, which has to be an offset, as an index and a number of bytes have to be
abbrev pub WidthRead : ℕ → Width → Reading ℕ
WidthRead greatest width = AsOffset greatest (UnsignedRead width)

-- a word of the unit's format, which has to be an offset
abbrev pub FormatRead : ℕ → Encoding → Reading ℕ
FormatRead greatest e = WordRead greatest (word_size e.format)

-- how many bytes follow, and these
abbrev pub BlockRead : ℕ → Width → Reading Input
BlockRead greatest width = do
  count ← WidthRead greatest width
  PartRead count

-- an offset into `.debug_info`: in version 2 it has the size of an address, and later it is a word
abbrev pub ReferenceRead : ℕ → Encoding → Reading ℕ
ReferenceRead greatest e = Choice (e.version == 2) (OffsetRead greatest e.address_size) (FormatRead greatest e)

-- the value that an abbreviation has, or the error that it has none
abbrev pub implicit_value : Option ℤ → Result Seen Error
implicit_value (Some x) = Ok (value.Sdata x)
implicit_value None = Err InvalidImplicitConst

-- ---- a value

-- a value of this shape, in a unit of this encoding; the abbreviation may have a constant
abbrev pub ShapeRead : ℕ → Encoding → Option ℤ → Shape → Reading Seen
ShapeRead greatest e constant shape.Addr = Mapped value.Addr (AddressRead e.address_size)
ShapeRead greatest e constant (shape.Block width) = Mapped value.Block (BlockRead greatest width)
ShapeRead greatest e constant shape.Exprloc = Mapped value.Exprloc (BlockRead greatest Leb128)
ShapeRead greatest e constant shape.Data1 = Mapped value.Data1 (NumberRead 1)
ShapeRead greatest e constant shape.Data2 = Mapped value.Data2 (NumberRead 2)
ShapeRead greatest e constant shape.Data4 = Mapped value.Data4 (NumberRead 4)
ShapeRead greatest e constant shape.Data8 = Mapped value.Data8 (NumberRead 8)
ShapeRead greatest e constant shape.Data16 = Mapped value.Data16 (NumberRead 16)
ShapeRead greatest e constant shape.Sdata = Mapped value.Sdata (Leb128Read signed64)
ShapeRead greatest e constant shape.Udata = Mapped value.Udata (Leb128Read unsigned64)
ShapeRead greatest e constant shape.ImplicitConst = Given (implicit_value constant)
ShapeRead greatest e constant shape.Flag = Mapped (λ x. value.Flag (not (x == 0))) (NumberRead 1)
ShapeRead greatest e constant shape.FlagPresent = Given (Ok (value.Flag true))
ShapeRead greatest e constant shape.SecOffset = Mapped value.SecOffset (FormatRead greatest e)
ShapeRead greatest e constant (shape.UnitRef width) =
    Mapped (λ x. value.UnitRef (record { 0 = x })) (WidthRead greatest width)
ShapeRead greatest e constant shape.DebugInfoRef =
    Mapped (λ x. value.DebugInfoRef (record { 0 = x })) (ReferenceRead greatest e)
ShapeRead greatest e constant shape.DebugInfoRefAlt =
    Mapped (λ x. value.DebugInfoRefSup (record { 0 = x })) (FormatRead greatest e)
ShapeRead greatest e constant (shape.DebugInfoRefSup width) =
    Mapped (λ x. value.DebugInfoRefSup (record { 0 = x })) (WidthRead greatest width)
ShapeRead greatest e constant shape.DebugTypesRef = Mapped (λ x. value.DebugTypesRef (record { 0 = x })) (NumberRead 8)
ShapeRead greatest e constant shape.DebugStrRef =
    Mapped (λ x. value.DebugStrRef (record { 0 = x })) (FormatRead greatest e)
ShapeRead greatest e constant shape.DebugStrRefSup =
    Mapped (λ x. value.DebugStrRefSup (record { 0 = x })) (FormatRead greatest e)
ShapeRead greatest e constant shape.DebugLineStrRef =
    Mapped (λ x. value.DebugLineStrRef (record { 0 = x })) (FormatRead greatest e)
ShapeRead greatest e constant (shape.DebugStrOffsetsIndex width) =
    Mapped (λ x. value.DebugStrOffsetsIndex (record { 0 = x })) (WidthRead greatest width)
ShapeRead greatest e constant (shape.DebugAddrIndex width) =
    Mapped (λ x. value.DebugAddrIndex (record { 0 = x })) (WidthRead greatest width)
ShapeRead greatest e constant shape.DebugLocListsIndex =
    Mapped (λ x. value.DebugLocListsIndex (record { 0 = x })) (WidthRead greatest Leb128)
ShapeRead greatest e constant shape.DebugRngListsIndex =
    Mapped (λ x. value.DebugRngListsIndex (record { 0 = x })) (WidthRead greatest Leb128)
ShapeRead greatest e constant shape.String = Mapped value.String StringRead

-- ---- its form

-- DW_FORM_indirect
abbrev pub indirect : ℕ
indirect = 0x16

-- the form of a value, of which the abbreviation has this one: itself, or if it is indirect, the form of the number that
-- the entry has first
pub data HasForm : Input → ℕ → ℕ → Input → Type 0 where
  direct : {old : Input} {form : ℕ} → form ≢ indirect → HasForm old form form old
  from_entry : {old mid new : Input} {form next actual : ℕ} → form ≡ indirect → ReadsLeb128 unsigned16 old next mid
      → HasForm mid next actual new → HasForm old form actual new

-- the abbreviation's form is indirect, and the entry has no number there, or one that has no form
pub data HasNoForm : Input → ℕ → Error → Input → Type 0 where
  no_number : {old new : Input} {form : ℕ} {e : Error} → form ≡ indirect → ReadsNoLeb128 unsigned16 old e new
      → HasNoForm old form e new
  no_later : {old mid new : Input} {form next : ℕ} {e : Error} → form ≡ indirect → ReadsLeb128 unsigned16 old next mid
      → HasNoForm mid next e new → HasNoForm old form e new

-- the form of a value
abbrev pub FormRead : ℕ → Reading ℕ
FormRead form old (Ok actual, new) = HasForm old form actual new
FormRead form old (Err e, new) = HasNoForm old form e new

-- ---- a form and its value

-- a value of the form's shape, next to the form; or the error that the form isn't known
abbrev pub KnownRead : ℕ → Encoding → Option ℤ → ℕ → Option Shape → Reading (ℕ × Seen)
KnownRead greatest e constant form None = Given (Err (UnknownForm (record { 0 = form })))
KnownRead greatest e constant form (Some s) = Mapped (λ x. (form, x)) (ShapeRead greatest e constant s)

-- the value of the attribute that this specification is of, next to its form
abbrev pub ValueRead : ℕ → Encoding → Specification → Reading (ℕ × Seen)
ValueRead greatest e spec = do
  form ← FormRead spec.form
  KnownRead greatest e spec.value form (form_shape form)
