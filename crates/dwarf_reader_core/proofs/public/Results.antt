-- What follows from a result that `?` propagates, or whose error is replaced.
use Rattle.dwarf_reader_core.proofs.Common.{arith, ◌≡◌, Result, Ok, Err, IfErr, IsErrAnd, Error}
use Rattle.std.specs.Result.{MatchResult, IsErr}

-- the error that `?` propagates has each property that it had before
pub propagated-err : {X : Type 0} (P : Error → Type 0) {e : Error} (result : Result X Error)
    → IsErrAnd result (λ x. x ≡ e) → P e → IfErr result P
propagated-err P result h is = grind arith

-- and the result is that error
pub propagated-is : {X : Type 0} {e : Error} (result : Result X Error) → IsErrAnd result (λ x. x ≡ e) → result ≡ Err e
propagated-is result h = grind arith

-- the error that takes the place of another has each property that it has where there was one
pub replaced-err : {X E : Type 0} {Made : E → Error → Type 0} (P : Error → Type 0) (fault : Error) (before : Result X E)
    (result : Result X Error) → MatchResult before (λ x. result ≡ Ok x) (λ e. IsErrAnd result (λ made. Made e made))
    → ((e : E) (made : Error) → Made e made → made ≡ fault) → (IsErr before → P fault) → IfErr result P
replaced-err P fault (Ok x) result is same holds = grind arith
replaced-err P fault (Err e) result is same holds = grind arith
