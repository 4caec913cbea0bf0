-- Values and attributes that are skipped: each is the reading of its bytes alone, which judges no value.
use Rattle.std.specs.Prelude.{◌==◌, ℕ, ⊤, List, [], ◌∷◌, Option, Some, None, Ok, Err, if◌then◌else◌}
use Rattle.dwarf_read_core.specs.declared.Encoding.{Encoding}
use Rattle.dwarf_read_core.specs.declared.Error.TheVariants.{UnknownForm}
use Rattle.dwarf_read_core.specs.Format.{word_size}
use Rattle.dwarf_read_core.specs.Grammar.{Specification}
use Rattle.dwarf_read_core.specs.Readings.{EncodingRead, Given, Mapped, Reading, SkipRead, StringRead, ◌>>=◌}
use Rattle.dwarf_entry_core.specs.declared.form.Shape.{Shape}
use Rattle.dwarf_entry_core.specs.declared.form.Shape.TheVariants as shape
use Rattle.dwarf_entry_core.specs.declared.form.Width.{Width}
use Rattle.dwarf_entry_core.specs.declared.form.Width.TheVariants.{One, Two, Three, Four, Eight, Leb128}
use Rattle.dwarf_entry_core.specs.Forms.{form_shape}
use Rattle.dwarf_entry_core.specs.Values.{FormRead, WidthRead}

-- a number of this width; a LEB128 number may have any length
abbrev pub UnsignedSkipped : Width → Reading ⊤
UnsignedSkipped One = SkipRead 1
UnsignedSkipped Two = SkipRead 2
UnsignedSkipped Three = SkipRead 3
UnsignedSkipped Four = SkipRead 4
UnsignedSkipped Eight = SkipRead 8
UnsignedSkipped Leb128 = EncodingRead

-- how many bytes follow, which has to be an offset, and these
abbrev pub BlockSkipped : ℕ → Width → Reading ⊤
BlockSkipped greatest width = do
  count ← WidthRead greatest width
  SkipRead count

-- how many bytes an offset into `.debug_info` has
abbrev pub reference_size : Encoding → ℕ
reference_size e = if e.version == 2 then e.address_size else word_size e.format

-- a value of this shape, in a unit of this encoding
abbrev pub ShapeSkipped : ℕ → Encoding → Shape → Reading ⊤
ShapeSkipped greatest e shape.Addr = SkipRead e.address_size
ShapeSkipped greatest e (shape.Block width) = BlockSkipped greatest width
ShapeSkipped greatest e shape.Exprloc = BlockSkipped greatest Leb128
ShapeSkipped greatest e shape.Data1 = SkipRead 1
ShapeSkipped greatest e shape.Data2 = SkipRead 2
ShapeSkipped greatest e shape.Data4 = SkipRead 4
ShapeSkipped greatest e shape.Data8 = SkipRead 8
ShapeSkipped greatest e shape.Data16 = SkipRead 16
ShapeSkipped greatest e shape.Sdata = EncodingRead
ShapeSkipped greatest e shape.Udata = EncodingRead
ShapeSkipped greatest e shape.ImplicitConst = Given (Ok tt)
ShapeSkipped greatest e shape.Flag = SkipRead 1
ShapeSkipped greatest e shape.FlagPresent = Given (Ok tt)
ShapeSkipped greatest e shape.SecOffset = SkipRead (word_size e.format)
ShapeSkipped greatest e (shape.UnitRef width) = UnsignedSkipped width
ShapeSkipped greatest e shape.DebugInfoRef = SkipRead (reference_size e)
ShapeSkipped greatest e shape.DebugInfoRefAlt = SkipRead (word_size e.format)
ShapeSkipped greatest e (shape.DebugInfoRefSup width) = UnsignedSkipped width
ShapeSkipped greatest e shape.DebugTypesRef = SkipRead 8
ShapeSkipped greatest e shape.DebugStrRef = SkipRead (word_size e.format)
ShapeSkipped greatest e shape.DebugStrRefSup = SkipRead (word_size e.format)
ShapeSkipped greatest e shape.DebugLineStrRef = SkipRead (word_size e.format)
ShapeSkipped greatest e (shape.DebugStrOffsetsIndex width) = UnsignedSkipped width
ShapeSkipped greatest e (shape.DebugAddrIndex width) = UnsignedSkipped width
ShapeSkipped greatest e shape.DebugLocListsIndex = EncodingRead
ShapeSkipped greatest e shape.DebugRngListsIndex = EncodingRead
ShapeSkipped greatest e shape.String = Mapped (λ string. tt) StringRead

-- a value of the form's shape; or the error that the form isn't known
abbrev pub KnownSkipped : ℕ → Encoding → ℕ → Option Shape → Reading ⊤
KnownSkipped greatest e form None = Given (Err (UnknownForm (record { 0 = form })))
KnownSkipped greatest e form (Some s) = ShapeSkipped greatest e s

-- a value, of which the abbreviation has this form
abbrev pub ValueSkipped : ℕ → Encoding → ℕ → Reading ⊤
ValueSkipped greatest e form = do
  actual ← FormRead form
  KnownSkipped greatest e actual (form_shape actual)

-- the attributes of an entry, one for each specification
abbrev pub AttributesSkipped : ℕ → Encoding → List Specification → Reading ⊤
AttributesSkipped greatest e [] = Given (Ok tt)
AttributesSkipped greatest e (s ∷ specs) = do
  done ← ValueSkipped greatest e s.form
  AttributesSkipped greatest e specs
