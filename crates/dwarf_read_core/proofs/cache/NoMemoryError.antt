-- A cache keeps no `OutOfMemory`.
use Rattle.dwarf_read_core.proofs.Common.{arith, ◌≢◌, ℕ, Err, Result, List, nat_cmp, nat_cmp_total, Error, OutOfMemory, Table, Answer, IsFirstError, Cache, KeepsNoOutOfMemory, StillKept, Input}
use Rattle.std.specs.FinMap as finite

-- the empty cache keeps no `OutOfMemory`
pub no_memory_error_empty : KeepsNoOutOfMemory finite.empty
no_memory_error_empty key is = let none = finite.get-empty {X = Result Table Error} nat_cmp key in cc

-- a cache that keeps no `OutOfMemory` keeps none after another result is inserted
pub no_memory_error_insert : (cache : Cache) (key : ℕ) (answer : Result Table Error) → KeepsNoOutOfMemory cache
    → answer ≢ Err OutOfMemory → KeepsNoOutOfMemory (finite.insert cache key answer)
no_memory_error_insert cache key answer none other q is =
    grind (arith, none q, finite.get-insert nat_cmp_total cache key answer q)

-- the first error of bytes that don't begin with a table is never `OutOfMemory`
first_error_not_memory : {end : ℕ} {bytes : List ℕ} {e : Error} → IsFirstError end bytes e → e ≢ OutOfMemory
first_error_not_memory h is = grind arith

-- the result for a section and an offset is never `OutOfMemory`
pub answer_not_memory : {section : Input} {key : ℕ} {answer : Result Table Error} → Answer section key answer
    → answer ≢ Err OutOfMemory
answer_not_memory h is = grind (arith, first_error_not_memory)

-- a cache that keeps no `OutOfMemory` keeps none after it has dropped entries
pub no_memory_error_final : (old new : Cache) → ((key : ℕ) → StillKept (finite.get old key) (finite.get new key))
    → KeepsNoOutOfMemory old → KeepsNoOutOfMemory new
no_memory_error_final old new h none key is = grind (arith, h key, none key)
