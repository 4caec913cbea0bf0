-- What follows from the result of steps that may fail.
use Rattle.std.proofs.Common.{arith, Bool, true, false, cond, refl, ◌≡◌, ◌≢◌, Result, Ok, Err, IsErrAnd}
use Rattle.dwarf_base_core.specs.declared.error.Error.TheVariants.{OutOfMemory}
use Rattle.dwarf_base_core.specs.declared.error.Error.{Error}
use Rattle.dwarf_read_core.specs.Reading.{◌>>=◌, ReturnsUnlessOutOfMemory}

-- a result is a value with one property, or an error with another
pub data HasOutcome {A : Type 0} (Good : A → Type 0) (Bad : Error → Type 0) : Result A Error → Type 0 where
  returned : (x : A) → Good x → HasOutcome Good Bad (Ok x)
  failed : (e : Error) → Bad e → HasOutcome Good Bad (Err e)

-- two steps in a row have an outcome if the first has one, and the second has it after each value of the first
pub outcome-bind : {A B : Type 0} {Good : A → Type 0} {Last : B → Type 0} {Bad : Error → Type 0} {r : Result A Error}
    (f : A → Result B Error) → HasOutcome Good Bad r → ((x : A) → Good x → HasOutcome Last Bad (f x))
    → HasOutcome Last Bad (r >>= f)
outcome-bind f (returned x good) next = next x good
outcome-bind f (failed e bad) next = failed e bad

-- a choice has an outcome if each of its sides has it where the test picks that side
pub outcome-cond : {A : Type 0} {Good : A → Type 0} {Bad : Error → Type 0} (t : Bool) {r s : Result A Error}
    → (t ≡ true → HasOutcome Good Bad r) → (t ≡ false → HasOutcome Good Bad s) → HasOutcome Good Bad (cond t r s)
outcome-cond true holds fails = holds refl
outcome-cond false holds fails = fails refl

-- an outcome has each property that its values and errors have
pub outcome-map : {A : Type 0} {Good Fine : A → Type 0} {Bad Worse : Error → Type 0} {r : Result A Error}
    → ((x : A) → Good x → Fine x) → ((e : Error) → Bad e → Worse e) → HasOutcome Good Bad r → HasOutcome Fine Worse r
outcome-map fine worse (returned x good) = returned x (fine x good)
outcome-map fine worse (failed e bad) = failed e (worse e bad)

-- a value that is returned has the property of values
pub outcome-ok : {A : Type 0} {Good : A → Type 0} {Bad : Error → Type 0} {r : Result A Error} → HasOutcome Good Bad r
    → (x : A) → r ≡ Ok x → Good x
outcome-ok h x e = grind arith

-- an error is no value
pub Err-no_Ok : {A : Type 0} {e : Error} {x : A} → Err e ≡ Ok x → ⊥
Err-no_Ok same = cc

-- an error that `?` propagates is the one that the function reads, unless memory ran out
pub gives_err : {X Y : Type 0} (view : X → Y) {read : Result Y Error} {e : Error} (result : Result X Error)
    → IsErrAnd result (λ x. x ≡ e) → (e ≢ OutOfMemory → read ≡ Err e) → ReturnsUnlessOutOfMemory view result read
gives_err view result h step = grind arith
