-- Declarations by their places, in the order of their codes. No public clause about a result cites this file.
use Rattle.std.specs.Prelude.{◌≡◌, ℕ, ◌<◌, false, if◌then◌else◌, Option, Some, None, List, [], map, length, slice_index_or}
use Rattle.std.specs.BTreeMap.{is_at}
use Rattle.std.specs.List.{All}
use Rattle.std.specs.List.Sorted.{IsStrictlySortedBy}
use Rattle.std.specs.Map.{keys_of, values_of, lookup}
use Rattle.std.specs.Ordering.{nat_cmp}
use Rattle.dwarf_read_core.specs.Grammar.{Declaration}

-- the declaration at a place; past the end there is one that no table has
abbrev pub at_place : List Declaration → ℕ → Declaration
at_place ds place = slice_index_or ds place (record { code = 0; tag = 0; children = false; attributes = [] })

-- codes with the declarations at their places
abbrev pub with_places : List Declaration → List (ℕ × ℕ) → List (ℕ × Declaration)
with_places ds ps = map (λ p. (p.0, at_place ds p.1)) ps

-- codes in order, with as many places as there are declarations, each of them one of theirs
pub record ArePlaces (ds : List Declaration) (ps : List (ℕ × ℕ)) : Type 0 where
  pub ordered : IsStrictlySortedBy nat_cmp (keys_of ps)
  pub within : All (λ place. place < length ds) (values_of ps)
  pub counted : length ps ≡ length ds

-- the declaration that entries have at a code
abbrev pub at_code : ℕ → List (ℕ × Declaration) → Option Declaration
at_code code es = lookup (is_at (nat_cmp code)) es

-- the entries fs have what es have, and d at its code, where es have none
pub record Adds (d : Declaration) (es fs : List (ℕ × Declaration)) : Type 0 where
  pub absent : at_code d.code es ≡ None
  pub added : (code : ℕ) → at_code code fs
      ≡ (if is_at (nat_cmp d.code) code then Some d else at_code code es)
