-- Numbers that may not fit a type.
use Rattle.std.specs.Prelude.{◌≡◌, ◌≤◌, ◌<◌, ℕ, Result, Ok, Err}
use Rattle.dwarf_base_core.specs.declared.error.Error.{Error}

-- `Ok` of the number n exactly if it is below the bound, and otherwise this error
abbrev pub OkBelow : {T : Type 0} → ℕ → (T → ℕ) → ℕ → Error → Result T Error → Type 0
OkBelow bound value n error (Ok x) = (value x ≡ n) × (n < bound)
OkBelow bound value n error (Err e) = (e ≡ error) × (bound ≤ n)
