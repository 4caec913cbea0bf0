-- What the small callers return.
use Rattle.std.specs.Prelude.{◌≡◌, ◌<◌, ℕ, List, [], ◌∷◌, ◌++◌, length, Ok, Err, ⊤}
use Rattle.std.specs.FinMap.{len}
use Rattle.dwarf_read_core.specs.declared.Error.{Error}
use Rattle.dwarf_read_core.specs.Answer.{Answer, TableEndsAt}
use Rattle.dwarf_read_core.specs.Grammar.{Table}
use Rattle.dwarf_read_core.specs.Input.{Input}

-- the tables of a section from its start up to an offset: each begins where the one before it ends, if that isn't the
-- section's end
pub data AreTablesUpTo (section : Input) : List Table → ℕ → Type 0 where
  none : AreTablesUpTo section [] 0
  one_more : (tables : List Table) (table : Table) (offset end : ℕ) → AreTablesUpTo section tables offset
      → offset < length section.bytes → Answer section offset (Ok table) → TableEndsAt section offset table end
      → AreTablesUpTo section (tables ++ table ∷ []) end

-- how many declarations the table at an offset has
abbrev pub HasLength : Input → ℕ → ℕ → Type 0
HasLength section offset n = (t : Table) × Answer section offset (Ok t) × (n ≡ len t.by_code)

-- the same for each of these offsets
abbrev pub HaveLengths : Input → List ℕ → List ℕ → Type 0
HaveLengths section [] [] = ⊤
HaveLengths section (offset ∷ offsets) (n ∷ ns) = HasLength section offset n × HaveLengths section offsets ns
HaveLengths section [] (n ∷ ns) = ⊥
HaveLengths section (offset ∷ offsets) [] = ⊥

-- the error of the first of these offsets at which there is no table
pub record IsFirstError (section : Input) (offsets : List ℕ) (e : Error) : Type 0 where
  pub before : List ℕ
  pub offset : ℕ
  pub following : List ℕ
  pub parts : offsets ≡ before ++ offset ∷ following
  pub lengths : List ℕ
  pub tables : HaveLengths section before lengths
  pub fault : Answer section offset (Err e)
