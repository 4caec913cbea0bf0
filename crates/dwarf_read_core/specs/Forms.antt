-- How many bytes a value of a form has, if the form determines it (DWARF 5, 7.5.6).
use Rattle.std.specs.Prelude.{ℕ, List, [], ◌∷◌, ◌==◌, Option, Some, None, if◌then◌else◌}
use Rattle.std.specs.Map.{lookup}
use Rattle.dwarf_base_core.specs.Format.{word_size}
use Rattle.dwarf_base_core.specs.declared.common.Encoding.{Encoding}

-- a fixed number of bytes, the address size, a word of the format, or the size of `DW_FORM_ref_addr`: in version 2 the
-- address size, and later a word
pub data Size : Type 0 where
  Bytes : ℕ → Size
  Address : Size
  Word : Size
  Reference : Size

-- each form whose values have a size, and that size
unfoldable pub form_sizes : List (ℕ × Size)
form_sizes =
    -- DW_FORM_addr
    (0x01, Address) ∷
    -- DW_FORM_data2
    (0x05, Bytes 2) ∷
    -- DW_FORM_data4
    (0x06, Bytes 4) ∷
    -- DW_FORM_data8
    (0x07, Bytes 8) ∷
    -- DW_FORM_data1
    (0x0b, Bytes 1) ∷
    -- DW_FORM_flag
    (0x0c, Bytes 1) ∷
    -- DW_FORM_strp
    (0x0e, Word) ∷
    -- DW_FORM_ref_addr
    (0x10, Reference) ∷
    -- DW_FORM_ref1
    (0x11, Bytes 1) ∷
    -- DW_FORM_ref2
    (0x12, Bytes 2) ∷
    -- DW_FORM_ref4
    (0x13, Bytes 4) ∷
    -- DW_FORM_ref8
    (0x14, Bytes 8) ∷
    -- DW_FORM_sec_offset
    (0x17, Word) ∷
    -- DW_FORM_flag_present
    (0x19, Bytes 0) ∷
    -- DW_FORM_ref_sup4
    (0x1c, Bytes 4) ∷
    -- DW_FORM_strp_sup
    (0x1d, Word) ∷
    -- DW_FORM_data16
    (0x1e, Bytes 16) ∷
    -- DW_FORM_line_strp
    (0x1f, Word) ∷
    -- DW_FORM_ref_sig8
    (0x20, Bytes 8) ∷
    -- DW_FORM_implicit_const
    (0x21, Bytes 0) ∷
    -- DW_FORM_ref_sup8
    (0x24, Bytes 8) ∷
    -- DW_FORM_strx1
    (0x25, Bytes 1) ∷
    -- DW_FORM_strx2
    (0x26, Bytes 2) ∷
    -- DW_FORM_strx3
    (0x27, Bytes 3) ∷
    -- DW_FORM_strx4
    (0x28, Bytes 4) ∷
    -- DW_FORM_addrx1
    (0x29, Bytes 1) ∷
    -- DW_FORM_addrx2
    (0x2a, Bytes 2) ∷
    -- DW_FORM_addrx3
    (0x2b, Bytes 3) ∷
    -- DW_FORM_addrx4
    (0x2c, Bytes 4) ∷
    -- DW_FORM_GNU_ref_alt
    (0x1f20, Word) ∷
    -- DW_FORM_GNU_strp_alt
    (0x1f21, Word) ∷
    []

-- the number of bytes of a size in an encoding
abbrev pub size_in : Encoding → Option Size → Option ℕ
size_in e None = None
size_in e (Some (Bytes n)) = Some n
size_in e (Some Address) = Some e.address_size
size_in e (Some Word) = Some (word_size e.format)
size_in e (Some Reference) = Some (if e.version == 2 then e.address_size else word_size e.format)

-- how many bytes a value of the form has in an encoding
abbrev pub form_size : ℕ → Encoding → Option ℕ
form_size form e = size_in e (lookup (λ f. f == form) form_sizes)
