-- Names of constants by value.
use Rattle.std.specs.Prelude.{ℕ, Bool, true, ◌&&◌, nat_lt, List, [], ◌∷◌, ◌++◌, ◌==◌, ◌≢◌, Option, unwrap_or, codes, decimal}
use Rattle.std.specs.List.{AllPairs, list_any}
use Rattle.std.specs.Map.{keys_of, lookup}

-- the name that a value has in a list of values and names
abbrev pub name_of : List (ℕ × List ℕ) → ℕ → Option (List ℕ)
name_of names value = lookup (λ named. named == value) names

-- no value has two names
abbrev pub HasDistinctValues : List (ℕ × List ℕ) → Type 0
HasDistinctValues names = AllPairs (λ value later. value ≢ later) (keys_of names)

-- the text of a value that has no name
abbrev pub unknown_text : List ℕ → ℕ → List ℕ
unknown_text type_name value = codes "Unknown " ++ type_name ++ codes ": " ++ decimal value

-- the name of a value, or the text of a value that has no name
abbrev pub text_of : List (ℕ × List ℕ) → List ℕ → ℕ → List ℕ
text_of names type_name value = unwrap_or (name_of names value) (unknown_text type_name value)

-- each value is above the one before it
abbrev pub is_rising_from : ℕ → List ℕ → Bool
is_rising_from last [] = true
is_rising_from last (value ∷ values) = nat_lt last value && is_rising_from value values

abbrev pub is_rising : List ℕ → Bool
is_rising [] = true
is_rising (value ∷ values) = is_rising_from value values

-- whether a value is one of those listed
abbrev pub is_among : List ℕ → ℕ → Bool
is_among values value = list_any (λ known. known == value) values
