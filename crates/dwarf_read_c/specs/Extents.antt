-- How far a contribution goes, whatever its header says.
use Rattle.std.specs.Prelude.{◌≡◌, ℕ, ◌+◌, ◌-◌, ◌^◌, Result, Ok, Err}
use Rattle.dwarf_read_core.specs.declared.Error.{Error}
use Rattle.dwarf_read_core.specs.declared.Format.{Format}
use Rattle.dwarf_read_core.specs.Format.{initial_length_size}
use Rattle.dwarf_read_core.specs.InitialLength.{LengthRead}
use Rattle.dwarf_read_core.specs.Input.{Input}
use Rattle.dwarf_read_core.specs.Lookups.{ReadAt}
use Rattle.dwarf_read_core.specs.Readings.{Given, Reading, SkipRead, ◌>>=◌}

-- the format and the length of a contribution, all of whose bytes are there
abbrev pub ExtentRead : Reading (Format × ℕ)
ExtentRead = do
  size ← LengthRead (2 ^ 64 - 1)
  _ ← SkipRead size.1
  Given (Ok size)

-- those of the contribution at an offset of a section, or the error that its length or its bytes aren't all there
abbrev pub ExtentAt : Input → ℕ → Result (Format × ℕ) Error → Type 0
ExtentAt section offset = ReadAt (SkipRead offset) ExtentRead section

-- where a contribution at an offset ends, and how many bytes follow its initial length; or what else is known of these
abbrev pub ends_of : ℕ → ℕ × ℕ → Result (Format × ℕ) Error → ℕ × ℕ
ends_of offset other (Ok size) = (offset + initial_length_size size.0 + size.1, size.1)
ends_of offset other (Err e) = other

-- both are written of a contribution that lies within its section, and stay as they are otherwise
abbrev pub StepsOver : Input → ℕ → ℕ × ℕ → ℕ × ℕ → Type 0
StepsOver section offset old new =
    (extent : Result (Format × ℕ) Error) × ExtentAt section offset extent × (new ≡ ends_of offset old extent)
