use Rattle.std.proofs.Common.{◌++◌, ◌∷◌, [], Ok, Err, map, subst}
use Rattle.std.proofs.lemmas.Result.{err_from_is_err_and}
use Rattle.dwarf_read_core.specs.Entries.{Entries, RepresentsAddresses}
use Rattle.dwarf_uses.proofs.Addresses.{error_is_item}
use Rattle.dwarf_uses.proofs.callers.addresses_in.Goals as goal

pub returns-in_err-address-clause-err : goal.returns-in_err-address-clause-err
returns-in_err-address-clause-err g c =
    let residual = c.from_residual-in_err-address in
    let p = err_from_is_err_and residual.result residual.ensures.1 in
    let found = c.loop-entries.addresses.items in
    let e = c.in_err-address.field-0.0 in
    rw (p.1, p.2) (λ memory.
    let item = error_is_item _ _ _ memory c.in_err-address.ensures.first in
    let items = c.loop-entries.invariant _ item in
    let are : Entries → Type 0 = λ entries. RepresentsAddresses entries (map (λ n. Ok n) found ++ Err e ∷ []) in
    (found, subst are c.in_ok-entries.ensures.ok items))
