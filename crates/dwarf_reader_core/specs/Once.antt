-- Exactly one value has a property.
use Rattle.std.specs.Prelude.{◌≡◌}

-- a value has the property, and no other value has it
abbrev pub HasOne : {A : Type 0} → (A → Type 0) → Type 0
HasOne {A = A} Is = (one : A) × Is one × ((other : A) → Is other → other ≡ one)
