-- What is listed of a section.
use Rattle.std.specs.Prelude.{◌≡◌, Result, Ok, Err}
use Rattle.dwarf_read_core.specs.declared.Error.{Error}

-- what is listed of a section's value, or the section's error
abbrev pub ListsBy : {A B : Type 0} → (A → B) → (Result A Error → Type 0) → Result B Error → Type 0
ListsBy {A} listed_of Is (Ok listed) = (value : A) × Is (Ok value) × (listed ≡ listed_of value)
ListsBy listed_of Is (Err error) = Is (Err error)
