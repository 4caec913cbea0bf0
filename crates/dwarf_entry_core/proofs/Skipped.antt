-- What is skipped is a reading, and skipping attributes leaves the bytes that reading them leaves.
use Rattle.std.proofs.Common.{◌≡◌, ℕ, ℤ, List, [], ◌∷◌, Result, Ok, Err, Option, Some, None, true, false, Bool, refl, ap, arith}
use Rattle.std.specs.Prelude.{⊤, ◌==◌, if◌then◌else◌}
use Rattle.dwarf_read_core.proofs.public.Readings.{encoding-is, given-is, mapped-is, skip-is, string-is, then-is, value-is}
use Rattle.dwarf_read_core.specs.declared.Encoding.{Encoding}
use Rattle.dwarf_read_core.specs.declared.Error.{Error}
use Rattle.dwarf_read_core.specs.declared.Error.TheVariants.{InvalidImplicitConst, UnknownForm}
use Rattle.dwarf_read_core.specs.Format.{word_size}
use Rattle.dwarf_read_core.specs.Grammar.{Specification}
use Rattle.dwarf_read_core.specs.Input.{Input, Takes, TakesNumber}
use Rattle.dwarf_read_core.specs.Leb128.{Kind, Number, ReadsLeb128, TakesEncoding, unsigned64}
use Rattle.dwarf_read_core.specs.Readings.{Choice, Given, IsRead, OffsetRead, WordRead}
use Rattle.dwarf_entry_core.specs.declared.form.Shape.{Shape}
use Rattle.dwarf_entry_core.specs.declared.form.Shape.TheVariants as shape
use Rattle.dwarf_entry_core.specs.declared.form.Width.{Width}
use Rattle.dwarf_entry_core.specs.declared.form.Width.TheVariants.{One, Two, Three, Four, Eight, Leb128}
use Rattle.dwarf_entry_core.specs.Entries.{AttributesRead}
use Rattle.dwarf_entry_core.specs.Forms.{form_shape}
use Rattle.dwarf_entry_core.specs.Seen.{Seen, SeenAttribute}
use Rattle.dwarf_entry_core.specs.Skipped.{AttributesSkipped, BlockSkipped, KnownSkipped, ShapeSkipped, UnsignedSkipped, ValueSkipped, reference_size}
use Rattle.dwarf_entry_core.specs.Values.{BlockRead, KnownRead, ShapeRead, UnsignedRead}
use Rattle.dwarf_entry_core.proofs.Forms.{form-is}
use Rattle.dwarf_entry_core.proofs.Values.{width-is}

-- ---- it is a reading

-- a number of a width
unsigned_skipped-is : (width : Width) → IsRead (UnsignedSkipped width)
unsigned_skipped-is One = skip-is 1
unsigned_skipped-is Two = skip-is 2
unsigned_skipped-is Three = skip-is 3
unsigned_skipped-is Four = skip-is 4
unsigned_skipped-is Eight = skip-is 8
unsigned_skipped-is Leb128 = encoding-is

module _ (greatest : ℕ) (e : Encoding) where
  -- a block
  block_skipped-is : (width : Width) → IsRead (BlockSkipped greatest width)
  block_skipped-is width = then-is (width-is greatest width) (λ count. skip-is count)

  -- a value of a shape
  shape_skipped-is : (s : Shape) → IsRead (ShapeSkipped greatest e s)
  shape_skipped-is shape.Addr = skip-is e.address_size
  shape_skipped-is (shape.Block width) = block_skipped-is width
  shape_skipped-is shape.Exprloc = block_skipped-is Leb128
  shape_skipped-is shape.Data1 = skip-is 1
  shape_skipped-is shape.Data2 = skip-is 2
  shape_skipped-is shape.Data4 = skip-is 4
  shape_skipped-is shape.Data8 = skip-is 8
  shape_skipped-is shape.Data16 = skip-is 16
  shape_skipped-is shape.Sdata = encoding-is
  shape_skipped-is shape.Udata = encoding-is
  shape_skipped-is shape.ImplicitConst = value-is tt
  shape_skipped-is shape.Flag = skip-is 1
  shape_skipped-is shape.FlagPresent = value-is tt
  shape_skipped-is shape.SecOffset = skip-is (word_size e.format)
  shape_skipped-is (shape.UnitRef width) = unsigned_skipped-is width
  shape_skipped-is shape.DebugInfoRef = skip-is (reference_size e)
  shape_skipped-is shape.DebugInfoRefAlt = skip-is (word_size e.format)
  shape_skipped-is (shape.DebugInfoRefSup width) = unsigned_skipped-is width
  shape_skipped-is shape.DebugTypesRef = skip-is 8
  shape_skipped-is shape.DebugStrRef = skip-is (word_size e.format)
  shape_skipped-is shape.DebugStrRefSup = skip-is (word_size e.format)
  shape_skipped-is shape.DebugLineStrRef = skip-is (word_size e.format)
  shape_skipped-is (shape.DebugStrOffsetsIndex width) = unsigned_skipped-is width
  shape_skipped-is (shape.DebugAddrIndex width) = unsigned_skipped-is width
  shape_skipped-is shape.DebugLocListsIndex = encoding-is
  shape_skipped-is shape.DebugRngListsIndex = encoding-is
  shape_skipped-is shape.String = mapped-is string-is

  -- a value of a form that is known, or the error that it isn't
  known_skipped-is : (form : ℕ) (s : Option Shape) → IsRead (KnownSkipped greatest e form s)
  known_skipped-is form None = given-is (Err (UnknownForm (record { 0 = form }))) (λ position same. grind arith)
  known_skipped-is form (Some s) = shape_skipped-is s

  -- a value
  value_skipped-is : (form : ℕ) → IsRead (ValueSkipped greatest e form)
  value_skipped-is form = then-is (form-is form) (λ actual. known_skipped-is actual (form_shape actual))

  -- attributes
  pub attributes_skipped-is : (specs : List Specification) → IsRead (AttributesSkipped greatest e specs)
  attributes_skipped-is [] = value-is tt
  attributes_skipped-is (s ∷ specs) = then-is (value_skipped-is s.form) (λ done. attributes_skipped-is specs)

-- ---- it leaves what reading leaves

-- no byte is read for either of two values that are given
same_left : {A : Type 0} {x y : A} {old new : Input} → Given (Ok y) old (Ok x, new) → Given {A = ⊤} (Ok tt) old (Ok tt, new)
same_left {A} is = ap (λ (r : Result A Error × Input). let s : Result ⊤ Error × Input = (Ok tt, r.1) in s) is

-- the bytes of a number are skipped
number-skipped : {n x : ℕ} {old new : Input} → TakesNumber n old x new → Takes n old new
number-skipped is = record { enough = is.enough; left = is.left }

-- and those of a LEB128 number
leb-skipped : (k : Kind) {x : Number k} {old new : Input} → ReadsLeb128 k old x new → TakesEncoding old new
leb-skipped k is = record {
  len = is.len;
  enough = is.has.enough;
  encoding = is.has.is_number.encoding;
  left = is.left;
}

-- and those of a number of any width
unsigned-skipped : (width : Width) (x : ℕ) (old new : Input) → UnsignedRead width old (Ok x, new)
    → UnsignedSkipped width old (Ok tt, new)
unsigned-skipped One x old new is = number-skipped is
unsigned-skipped Two x old new is = number-skipped is
unsigned-skipped Three x old new is = number-skipped is
unsigned-skipped Four x old new is = number-skipped is
unsigned-skipped Eight x old new is = number-skipped is
unsigned-skipped Leb128 x old new is = leb-skipped unsigned64 is

module _ (greatest : ℕ) (e : Encoding) where
  -- a block that is read is skipped
  block-skipped : (width : Width) (part old new : Input) → BlockRead greatest width old (Ok part, new)
      → BlockSkipped greatest width old (Ok tt, new)
  block-skipped width part old new is = (is.0, is.1, is.2, is.3.1)

  -- and an offset into `.debug_info`
  reference-skipped : (is_2 : Bool) (x : ℕ) (old new : Input)
      → Choice is_2 (OffsetRead greatest e.address_size) (WordRead greatest (word_size e.format)) old (Ok x, new)
      → Takes (if is_2 then e.address_size else word_size e.format) old new
  reference-skipped true x old new is = number-skipped is.0
  reference-skipped false x old new is = number-skipped is.0

  -- and a value of a shape
  shape-skipped : (constant : Option ℤ) (s : Shape) (x : Seen) (old new : Input)
      → ShapeRead greatest e constant s old (Ok x, new) → ShapeSkipped greatest e s old (Ok tt, new)
  shape-skipped constant shape.Addr x old new is = number-skipped is.2.0
  shape-skipped constant (shape.Block width) x old new is = block-skipped width is.0 old new is.2
  shape-skipped constant shape.Exprloc x old new is = block-skipped Leb128 is.0 old new is.2
  shape-skipped constant shape.Data1 x old new is = number-skipped is.2
  shape-skipped constant shape.Data2 x old new is = number-skipped is.2
  shape-skipped constant shape.Data4 x old new is = number-skipped is.2
  shape-skipped constant shape.Data8 x old new is = number-skipped is.2
  shape-skipped constant shape.Data16 x old new is = number-skipped is.2
  shape-skipped constant shape.Sdata x old new is = leb-skipped _ is.2
  shape-skipped constant shape.Udata x old new is = leb-skipped _ is.2
  shape-skipped (Some c) shape.ImplicitConst x old new is = same_left is
  shape-skipped None shape.ImplicitConst x old new is =
      let apart : ◌≡◌ {A = Result Seen Error} (Ok x) (Err InvalidImplicitConst) = ap (λ (r : Result Seen Error × Input). r.0) is in
      absurd cc
  shape-skipped constant shape.Flag x old new is = number-skipped is.2
  shape-skipped constant shape.FlagPresent x old new is = same_left is
  shape-skipped constant shape.SecOffset x old new is = number-skipped is.2.0
  shape-skipped constant (shape.UnitRef width) x old new is = unsigned-skipped width is.0 old new is.2.0
  shape-skipped constant shape.DebugInfoRef x old new is = reference-skipped (e.version == 2) is.0 old new is.2
  shape-skipped constant shape.DebugInfoRefAlt x old new is = number-skipped is.2.0
  shape-skipped constant (shape.DebugInfoRefSup width) x old new is = unsigned-skipped width is.0 old new is.2.0
  shape-skipped constant shape.DebugTypesRef x old new is = number-skipped is.2
  shape-skipped constant shape.DebugStrRef x old new is = number-skipped is.2.0
  shape-skipped constant shape.DebugStrRefSup x old new is = number-skipped is.2.0
  shape-skipped constant shape.DebugLineStrRef x old new is = number-skipped is.2.0
  shape-skipped constant (shape.DebugStrOffsetsIndex width) x old new is = unsigned-skipped width is.0 old new is.2.0
  shape-skipped constant (shape.DebugAddrIndex width) x old new is = unsigned-skipped width is.0 old new is.2.0
  shape-skipped constant shape.DebugLocListsIndex x old new is = leb-skipped _ is.2.0
  shape-skipped constant shape.DebugRngListsIndex x old new is = leb-skipped _ is.2.0
  shape-skipped constant shape.String x old new is = (_, refl, is.2)

  -- and a value of a form
  known-skipped : (constant : Option ℤ) (form : ℕ) (s : Option Shape) (x : ℕ × Seen) (old new : Input)
      → KnownRead greatest e constant form s old (Ok x, new) → KnownSkipped greatest e form s old (Ok tt, new)
  known-skipped constant form None x old new is =
      let apart : ◌≡◌ {A = Result (ℕ × Seen) Error} (Ok x) (Err (UnknownForm (record { 0 = form }))) =
      ap (λ (r : Result (ℕ × Seen) Error × Input). r.0) is in
      absurd cc
  known-skipped constant form (Some s) x old new is = shape-skipped constant s is.0 old new is.2

  -- and attributes
  pub attributes-skipped : (specs : List Specification) (xs : List SeenAttribute) (old new : Input)
      → AttributesRead greatest e specs old (Ok xs, new) → AttributesSkipped greatest e specs old (Ok tt, new)
  attributes-skipped [] xs old new is = same_left is
  attributes-skipped (s ∷ specs) xs old new is =
      let value = is.2.2 in
      let others = is.3.2 in (
        tt,
        is.1,
        (value.0, value.1, value.2, known-skipped s.value value.0 (form_shape value.0) is.2.0 value.1 is.1 value.3),
        attributes-skipped specs is.3.0 is.1 new others,
      )
