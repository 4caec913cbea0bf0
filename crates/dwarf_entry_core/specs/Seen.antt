-- What contracts see of entries: each reader as the input that it represents, and each offset as its number.
use Rattle.std.specs.Prelude.{ℕ}
use Rattle.dwarf_read_core.specs.Input.{Input}
use Rattle.dwarf_entry_core.specs.declared.entries.Attribute.{Attribute}
use Rattle.dwarf_entry_core.specs.declared.value.AttributeValue.{AttributeValue}
use Rattle.dwarf_entry_core.specs.declared.value.AttributeValue.TheVariants.{Addr, Block, Data1, Data2, Data4, Data8, Data16, Sdata, Udata, Exprloc, Flag, SecOffset, UnitRef, DebugInfoRef, DebugInfoRefSup, DebugTypesRef, DebugStrRef, DebugStrRefSup, DebugLineStrRef, DebugStrOffsetsIndex, DebugAddrIndex, DebugLocListsIndex, DebugRngListsIndex, String}

-- a value, with inputs for readers and numbers for offsets
abbrev pub Seen : Type 0
Seen = AttributeValue Input ℕ

-- the value that a caller has
abbrev pub seen_value : {R O : Type 0} → (R → Input) → (O → ℕ) → AttributeValue R O → Seen
seen_value view value (Addr x) = Addr x
seen_value view value (Block x) = Block (view x)
seen_value view value (Data1 x) = Data1 x
seen_value view value (Data2 x) = Data2 x
seen_value view value (Data4 x) = Data4 x
seen_value view value (Data8 x) = Data8 x
seen_value view value (Data16 x) = Data16 x
seen_value view value (Sdata x) = Sdata x
seen_value view value (Udata x) = Udata x
seen_value view value (Exprloc x) = Exprloc (view x)
seen_value view value (Flag x) = Flag x
seen_value view value (SecOffset x) = SecOffset (value x)
seen_value view value (UnitRef x) = UnitRef (record { 0 = value x.0 })
seen_value view value (DebugInfoRef x) = DebugInfoRef (record { 0 = value x.0 })
seen_value view value (DebugInfoRefSup x) = DebugInfoRefSup (record { 0 = value x.0 })
seen_value view value (DebugTypesRef x) = DebugTypesRef x
seen_value view value (DebugStrRef x) = DebugStrRef (record { 0 = value x.0 })
seen_value view value (DebugStrRefSup x) = DebugStrRefSup (record { 0 = value x.0 })
seen_value view value (DebugLineStrRef x) = DebugLineStrRef (record { 0 = value x.0 })
seen_value view value (DebugStrOffsetsIndex x) = DebugStrOffsetsIndex (record { 0 = value x.0 })
seen_value view value (DebugAddrIndex x) = DebugAddrIndex (record { 0 = value x.0 })
seen_value view value (DebugLocListsIndex x) = DebugLocListsIndex (record { 0 = value x.0 })
seen_value view value (DebugRngListsIndex x) = DebugRngListsIndex (record { 0 = value x.0 })
seen_value view value (String x) = String (view x)

-- an attribute, with inputs for readers and numbers for offsets
abbrev pub SeenAttribute : Type 0
SeenAttribute = Attribute Input ℕ

-- the attribute that a caller has
abbrev pub seen_attribute : {R O : Type 0} → (R → Input) → (O → ℕ) → Attribute R O → SeenAttribute
seen_attribute view value a = record { name = a.name; form = a.form; value = seen_value view value a.value }
