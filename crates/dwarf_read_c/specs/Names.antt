-- How a name or a text is handed to a caller.
use Rattle.std.specs.Prelude.{◌≡◌, ℕ, List, length, Option, Some, None}
use Rattle.dwarf_read_c.specs.Room.{Puts}
use Rattle.dwarf_read_c.specs.declared.status.TheConstants.{DWARF_NO_NAME, DWARF_OK}

-- the name is told; or there is none, and the old one remains
abbrev pub TellsName : Option (List ℕ) → List ℕ → List ℕ → ℕ → Type 0
TellsName (Some name) old new status = (status ≡ DWARF_OK) × (new ≡ name)
TellsName None old new status = (status ≡ DWARF_NO_NAME) × (new ≡ old)

-- the text is written to the front and its length is written; or there is no text, and nothing is written
abbrev pub PutsText : Option (List ℕ) → List ℕ → List ℕ → ℕ → ℕ → ℕ → Type 0
PutsText (Some text) old new old_len len status = Puts text old new status × (len ≡ length text)
PutsText None old new old_len len status = (status ≡ DWARF_NO_NAME) × (new ≡ old) × (len ≡ old_len)
