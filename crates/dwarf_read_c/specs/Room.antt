-- How items are written to an array of a caller.
use Rattle.std.specs.Prelude.{◌≡◌, ℕ, ◌<◌, ◌≤◌, List, ◌++◌, length, drop}
use Rattle.dwarf_read_c.specs.declared.status.TheConstants.{DWARF_OK, DWARF_NO_ROOM}

-- the items are at the front, and the elements after them are unchanged
pub record Fills {A : Type 0} (items old new : List A) : Type 0 where
  pub room : length items ≤ length old
  pub content : new ≡ items ++ drop (length items) old

-- the items are at the front; or there is no room for them, and all elements are unchanged
pub data Puts {A : Type 0} (items old new : List A) : ℕ → Type 0 where
  put : Fills items old new → Puts items old new DWARF_OK
  full : length old < length items → new ≡ old → Puts items old new DWARF_NO_ROOM
