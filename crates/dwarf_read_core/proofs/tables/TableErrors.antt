-- In place of a table a section has one of eight errors.
use Rattle.dwarf_read_core.proofs.Common.{ℕ, List, Err, Error, Input, Answer, IsFirstError, HasError, number_cut, number_bad, children_cut, tag_zero, children_bad, name_zero, form_zero}
use Rattle.dwarf_read_core.specs.Answer.{IsTableError, missing_bytes, bad_number, zero_tag, bad_children, zero_name, zero_form, same_code}
use Rattle.dwarf_read_core.proofs.Common.{arith}

-- the error of bytes that begin like a declaration is one of them
error_is : {end : ℕ} {bytes : List ℕ} {e : Error} → HasError end bytes e → IsTableError e
error_is (number_cut front bytes k begins is) = missing_bytes _
error_is (number_bad front bytes k begins is) = bad_number k
error_is (children_cut front code tag is) = missing_bytes _
error_is (tag_zero front tag rest code is zero) = zero_tag
error_is (children_bad front rest code tag byte is over) = bad_children byte
error_is (name_zero front name form rest d f is zero number some) = zero_name
error_is (form_zero front name form rest d n is number some zero) = zero_form

-- so is the first error of bytes that don't begin with a table
first_is : {end : ℕ} {bytes : List ℕ} {e : Error} → IsFirstError end bytes e → IsTableError e
first_is h = grind (arith, error_is, same_code)

-- the error in place of a table is one of them
pub table_error : (section : Input) (offset : ℕ) (e : Error) → Answer section offset (Err e) → IsTableError e
table_error section offset e h = grind (arith, first_is, missing_bytes)
