-- Tables have no byte order.
use Rattle.dwarf_read_core.proofs.Common.{Bool, ℕ, Result, Error, Table, Answer, outside, table, first_error, Input}

-- a section has the same result in either byte order
pub answer_in_either_order : (section : Input) (is_big : Bool) (offset : ℕ) (answer : Result Table Error)
    → Answer section offset answer → Answer (record section { is_big = is_big }) offset answer
answer_in_either_order section is_big offset _ (outside past) = outside past
answer_in_either_order section is_big offset _ (table t within is) = table t within is
answer_in_either_order section is_big offset _ (first_error e within is) = first_error e within is
