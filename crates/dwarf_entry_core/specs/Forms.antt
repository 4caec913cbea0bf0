-- The shapes of forms: how a value of each is encoded, and what it is (DWARF 5, 7.5.5 and 7.5.6).
use Rattle.std.specs.Prelude.{ℕ, List, [], ◌∷◌, ◌==◌, Option}
use Rattle.std.specs.Map.{lookup}
use Rattle.dwarf_entry_core.specs.declared.form.Shape.{Shape}
use Rattle.dwarf_entry_core.specs.declared.form.Shape.TheVariants.{Addr, Block, Exprloc, Data1, Data2, Data4, Data8, Data16, Sdata, Udata, ImplicitConst, Flag, FlagPresent, SecOffset, UnitRef, DebugInfoRef, DebugInfoRefAlt, DebugInfoRefSup, DebugTypesRef, DebugStrRef, DebugStrRefSup, DebugLineStrRef, DebugStrOffsetsIndex, DebugAddrIndex, DebugLocListsIndex, DebugRngListsIndex, String}
use Rattle.dwarf_entry_core.specs.declared.form.Width.TheVariants.{One, Two, Three, Four, Eight, Leb128}

-- each form that a value can have, and its shape
unfoldable pub form_shapes : List (ℕ × Shape)
form_shapes =
    -- DW_FORM_addr
    (0x01, Addr) ∷
    -- DW_FORM_block2
    (0x03, Block Two) ∷
    -- DW_FORM_block4
    (0x04, Block Four) ∷
    -- DW_FORM_data2
    (0x05, Data2) ∷
    -- DW_FORM_data4
    (0x06, Data4) ∷
    -- DW_FORM_data8
    (0x07, Data8) ∷
    -- DW_FORM_string
    (0x08, String) ∷
    -- DW_FORM_block
    (0x09, Block Leb128) ∷
    -- DW_FORM_block1
    (0x0a, Block One) ∷
    -- DW_FORM_data1
    (0x0b, Data1) ∷
    -- DW_FORM_flag
    (0x0c, Flag) ∷
    -- DW_FORM_sdata
    (0x0d, Sdata) ∷
    -- DW_FORM_strp
    (0x0e, DebugStrRef) ∷
    -- DW_FORM_udata
    (0x0f, Udata) ∷
    -- DW_FORM_ref_addr
    (0x10, DebugInfoRef) ∷
    -- DW_FORM_ref1
    (0x11, UnitRef One) ∷
    -- DW_FORM_ref2
    (0x12, UnitRef Two) ∷
    -- DW_FORM_ref4
    (0x13, UnitRef Four) ∷
    -- DW_FORM_ref8
    (0x14, UnitRef Eight) ∷
    -- DW_FORM_ref_udata
    (0x15, UnitRef Leb128) ∷
    -- DW_FORM_sec_offset
    (0x17, SecOffset) ∷
    -- DW_FORM_exprloc
    (0x18, Exprloc) ∷
    -- DW_FORM_flag_present
    (0x19, FlagPresent) ∷
    -- DW_FORM_strx
    (0x1a, DebugStrOffsetsIndex Leb128) ∷
    -- DW_FORM_addrx
    (0x1b, DebugAddrIndex Leb128) ∷
    -- DW_FORM_ref_sup4
    (0x1c, DebugInfoRefSup Four) ∷
    -- DW_FORM_strp_sup
    (0x1d, DebugStrRefSup) ∷
    -- DW_FORM_data16
    (0x1e, Data16) ∷
    -- DW_FORM_line_strp
    (0x1f, DebugLineStrRef) ∷
    -- DW_FORM_ref_sig8
    (0x20, DebugTypesRef) ∷
    -- DW_FORM_implicit_const
    (0x21, ImplicitConst) ∷
    -- DW_FORM_loclistx
    (0x22, DebugLocListsIndex) ∷
    -- DW_FORM_rnglistx
    (0x23, DebugRngListsIndex) ∷
    -- DW_FORM_ref_sup8
    (0x24, DebugInfoRefSup Eight) ∷
    -- DW_FORM_strx1
    (0x25, DebugStrOffsetsIndex One) ∷
    -- DW_FORM_strx2
    (0x26, DebugStrOffsetsIndex Two) ∷
    -- DW_FORM_strx3
    (0x27, DebugStrOffsetsIndex Three) ∷
    -- DW_FORM_strx4
    (0x28, DebugStrOffsetsIndex Four) ∷
    -- DW_FORM_addrx1
    (0x29, DebugAddrIndex One) ∷
    -- DW_FORM_addrx2
    (0x2a, DebugAddrIndex Two) ∷
    -- DW_FORM_addrx3
    (0x2b, DebugAddrIndex Three) ∷
    -- DW_FORM_addrx4
    (0x2c, DebugAddrIndex Four) ∷
    -- DW_FORM_GNU_addr_index
    (0x1f01, DebugAddrIndex Leb128) ∷
    -- DW_FORM_GNU_str_index
    (0x1f02, DebugStrOffsetsIndex Leb128) ∷
    -- DW_FORM_GNU_ref_alt
    (0x1f20, DebugInfoRefAlt) ∷
    -- DW_FORM_GNU_strp_alt
    (0x1f21, DebugStrRefSup) ∷
    []

-- the shape of a form
abbrev pub form_shape : ℕ → Option Shape
form_shape form = lookup (λ f. f == form) form_shapes
