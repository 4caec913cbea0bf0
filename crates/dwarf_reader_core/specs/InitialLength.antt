-- The initial length of a unit (DWARF 5, 7.4).
use Rattle.std.specs.Prelude.{ℕ, ◌<◌, ◌≤◌, ◌≢◌, Result, Ok, Err}
use Rattle.dwarf_base_core.specs.declared.common.Format.{Format}
use Rattle.dwarf_base_core.specs.declared.common.Format.TheVariants.{Dwarf32, Dwarf64}
use Rattle.dwarf_base_core.specs.declared.error.Error.{Error}
use Rattle.dwarf_base_core.specs.declared.error.Error.TheVariants.{UnknownReservedLength, UnsupportedOffset}
use Rattle.dwarf_reader_core.specs.Faults.{IsTooShort}
use Rattle.dwarf_reader_core.specs.Input.{Input, TakesNumber}

-- an input begins with an initial length, of this format and for that many bytes, and the new input remains: four bytes
-- below 0xfffffff0, or four bytes 0xffffffff and after them eight, whose number is an offset
pub data HasLength (greatest : ℕ) (old : Input) : Format → ℕ → Input → Type 0 where
  in_four_bytes : {n : ℕ} {new : Input} → TakesNumber 4 old n new → n < 0xffff_fff0
      → HasLength greatest old Dwarf32 n new
  in_eight_bytes : {n : ℕ} {mid new : Input} → TakesNumber 4 old 0xffff_ffff mid → TakesNumber 8 mid n new
      → n ≤ greatest → HasLength greatest old Dwarf64 n new

-- an input begins with no initial length, and the new input remains: bytes are missing, the first four are reserved, or
-- the number of eight is no offset
pub data HasNoLength (greatest : ℕ) (old : Input) : Error → Input → Type 0 where
  four_cut : {e : Error} {new : Input} → IsTooShort 4 old e new → HasNoLength greatest old e new
  reserved : {n : ℕ} {new : Input} → TakesNumber 4 old n new → 0xffff_fff0 ≤ n → n ≢ 0xffff_ffff
      → HasNoLength greatest old (UnknownReservedLength n) new
  eight_cut : {mid new : Input} {e : Error} → TakesNumber 4 old 0xffff_ffff mid → IsTooShort 8 mid e new
      → HasNoLength greatest old e new
  too_great : {n : ℕ} {mid new : Input} → TakesNumber 4 old 0xffff_ffff mid → TakesNumber 8 mid n new → greatest < n
      → HasNoLength greatest old UnsupportedOffset new

-- the result for the initial length at the front of an input, and what remains then
abbrev pub LengthRead : ℕ → Input → Result (Format × ℕ) Error × Input → Type 0
LengthRead greatest old (Ok x, new) = HasLength greatest old x.0 x.1 new
LengthRead greatest old (Err e, new) = HasNoLength greatest old e new
