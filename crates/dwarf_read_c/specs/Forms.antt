-- How the size of a form is written for a caller.
use Rattle.std.specs.Prelude.{◌≡◌, ℕ, Bool, Option, Some, None, if◌then◌else◌}
use Rattle.dwarf_read_core.specs.declared.Encoding.{Encoding}
use Rattle.dwarf_read_core.specs.declared.Format.TheVariants.{Dwarf32, Dwarf64}
use Rattle.dwarf_read_c.specs.declared.status.TheConstants.{DWARF_NO_SIZE, DWARF_OK}

-- how a unit is encoded, by its version, its address size, and whether it is in the 64-bit format
abbrev pub encoding_of : ℕ → ℕ → Bool → Encoding
encoding_of version address_size is_64 = record {
  address_size = address_size;
  format = if is_64 then Dwarf64 else Dwarf32;
  version = version;
}

-- the size is written; or there is none, and nothing is written
abbrev pub PutsSize : Option ℕ → ℕ → ℕ → ℕ → Type 0
PutsSize (Some size) old new status = (status ≡ DWARF_OK) × (new ≡ size)
PutsSize None old new status = (status ≡ DWARF_NO_SIZE) × (new ≡ old)
