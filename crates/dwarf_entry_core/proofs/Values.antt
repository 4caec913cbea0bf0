-- Values, attributes and entries are readings: each input has exactly one result, which appended bytes change only where
-- bytes were missing.
use Rattle.std.proofs.Common.{ℕ, ℤ, List, [], ◌∷◌, Err, Option, Some, None, arith}
use Rattle.std.specs.FinMap as finite
use Rattle.std.specs.Prelude.{◌==◌}
use Rattle.dwarf_read_core.proofs.public.Readings.{address-is, as_offset-is, choice-is, given-is, leb128-is, mapped-is, number-is, offset-is, part-is, string-is, then-is, value-is, word-is}
use Rattle.dwarf_read_core.specs.declared.Encoding.{Encoding}
use Rattle.dwarf_read_core.specs.declared.Error.TheVariants.{InvalidAbbreviationCode, InvalidImplicitConst, UnknownForm}
use Rattle.dwarf_read_core.specs.Format.{word_size}
use Rattle.dwarf_read_core.specs.Grammar.{Declaration, Specification, Table}
use Rattle.dwarf_read_core.specs.Leb128.{signed64, unsigned64}
use Rattle.dwarf_read_core.specs.Readings.{Given, IsRead}
use Rattle.dwarf_entry_core.specs.declared.form.Shape.{Shape}
use Rattle.dwarf_entry_core.specs.declared.form.Shape.TheVariants as shape
use Rattle.dwarf_entry_core.specs.declared.form.Width.{Width}
use Rattle.dwarf_entry_core.specs.declared.form.Width.TheVariants.{One, Two, Three, Four, Eight, Leb128}
use Rattle.dwarf_entry_core.specs.Entries.{AttributeRead, AttributesRead, BodyRead, CodeRead, EntryRead, FoundRead}
use Rattle.dwarf_entry_core.specs.Forms.{form_shape}
use Rattle.dwarf_entry_core.specs.Values.{BlockRead, KnownRead, ReferenceRead, ShapeRead, UnsignedRead, ValueRead, WidthRead, implicit_value}
use Rattle.dwarf_entry_core.proofs.Forms.{form-is}

-- an unsigned number of a width
unsigned-is : (width : Width) → IsRead (UnsignedRead width)
unsigned-is One = number-is 1
unsigned-is Two = number-is 2
unsigned-is Three = number-is 3
unsigned-is Four = number-is 4
unsigned-is Eight = number-is 8
unsigned-is Leb128 = leb128-is unsigned64

module _ (greatest : ℕ) (width : Width) where
  -- one that has to be an offset
  pub width-is : IsRead (WidthRead greatest width)
  width-is = as_offset-is greatest (unsigned-is width)

  -- a block
  block-is : IsRead (BlockRead greatest width)
  block-is = then-is width-is (λ count. part-is count)

module _ (greatest : ℕ) (e : Encoding) where
  -- an offset into `.debug_info`
  reference-is : IsRead (ReferenceRead greatest e)
  reference-is =
      choice-is (e.version == 2) (offset-is greatest e.address_size) (word-is greatest (word_size e.format))

  -- a constant of the abbreviation
  implicit-is : (constant : Option ℤ) → IsRead (Given (implicit_value constant))
  implicit-is (Some x) = value-is _
  implicit-is None = given-is (Err InvalidImplicitConst) (λ position same. grind arith)

  -- a value of a shape
  pub shape-is : (constant : Option ℤ) (s : Shape) → IsRead (ShapeRead greatest e constant s)
  shape-is constant shape.Addr = mapped-is (address-is e.address_size)
  shape-is constant (shape.Block width) = mapped-is (block-is greatest width)
  shape-is constant shape.Exprloc = mapped-is (block-is greatest Leb128)
  shape-is constant shape.Data1 = mapped-is (number-is 1)
  shape-is constant shape.Data2 = mapped-is (number-is 2)
  shape-is constant shape.Data4 = mapped-is (number-is 4)
  shape-is constant shape.Data8 = mapped-is (number-is 8)
  shape-is constant shape.Data16 = mapped-is (number-is 16)
  shape-is constant shape.Sdata = mapped-is (leb128-is signed64)
  shape-is constant shape.Udata = mapped-is (leb128-is unsigned64)
  shape-is constant shape.ImplicitConst = implicit-is constant
  shape-is constant shape.Flag = mapped-is (number-is 1)
  shape-is constant shape.FlagPresent = value-is _
  shape-is constant shape.SecOffset = mapped-is (word-is greatest (word_size e.format))
  shape-is constant (shape.UnitRef width) = mapped-is (width-is greatest width)
  shape-is constant shape.DebugInfoRef = mapped-is reference-is
  shape-is constant shape.DebugInfoRefAlt = mapped-is (word-is greatest (word_size e.format))
  shape-is constant (shape.DebugInfoRefSup width) = mapped-is (width-is greatest width)
  shape-is constant shape.DebugTypesRef = mapped-is (number-is 8)
  shape-is constant shape.DebugStrRef = mapped-is (word-is greatest (word_size e.format))
  shape-is constant shape.DebugStrRefSup = mapped-is (word-is greatest (word_size e.format))
  shape-is constant shape.DebugLineStrRef = mapped-is (word-is greatest (word_size e.format))
  shape-is constant (shape.DebugStrOffsetsIndex width) = mapped-is (width-is greatest width)
  shape-is constant (shape.DebugAddrIndex width) = mapped-is (width-is greatest width)
  shape-is constant shape.DebugLocListsIndex = mapped-is (width-is greatest Leb128)
  shape-is constant shape.DebugRngListsIndex = mapped-is (width-is greatest Leb128)
  shape-is constant shape.String = mapped-is string-is

  -- a value of a form that is known, or the error that it isn't
  known-is : (constant : Option ℤ) (form : ℕ) (s : Option Shape) → IsRead (KnownRead greatest e constant form s)
  known-is constant form None = given-is (Err (UnknownForm (record { 0 = form }))) (λ position same. grind arith)
  known-is constant form (Some s) = mapped-is (shape-is constant s)

  -- a value and its form
  pub value_read-is : (s : Specification) → IsRead (ValueRead greatest e s)
  value_read-is s = then-is (form-is s.form) (λ form. known-is s.value form (form_shape form))

  -- an attribute
  pub attribute-is : (s : Specification) → IsRead (AttributeRead greatest e s)
  attribute-is s = mapped-is (value_read-is s)

  -- the attributes of an entry
  pub attributes-is : (specs : List Specification) → IsRead (AttributesRead greatest e specs)
  attributes-is [] = value-is []
  attributes-is (s ∷ specs) = then-is (attribute-is s) (λ x. mapped-is (attributes-is specs))

  -- the attributes of an abbreviation
  pub body-is : (d : Option Declaration) → IsRead (BodyRead greatest e d)
  body-is None = value-is None
  body-is (Some d) = mapped-is (attributes-is d.attributes)

  -- the abbreviation of a code
  pub found-is : (code : ℕ) (d : Option Declaration) → IsRead (FoundRead code d)
  found-is code None = given-is (Err (InvalidAbbreviationCode code)) (λ position same. grind arith)
  found-is code (Some d) = value-is _

  -- a code and its abbreviation
  pub code-is : (table : Table) → IsRead (CodeRead table)
  code-is table =
      then-is (leb128-is unsigned64)
      (λ code. choice-is (code == 0) (value-is None) (found-is code (finite.get table.by_code code)))

  -- an entry
  pub entry-is : (table : Table) → IsRead (EntryRead greatest e table)
  entry-is table = then-is (code-is table) body-is
