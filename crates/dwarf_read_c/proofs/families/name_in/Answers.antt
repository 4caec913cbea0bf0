use Rattle.std.proofs.Common.{arith}
use Rattle.std.proofs.lemmas.Bool.Decides.{nat_tests}
use Rattle.dwarf_read_c.proofs.FamilyBounds.{unnamed}
use Rattle.dwarf_read_c.proofs.families.name_in.Goals as goal

pub returns-in_err-word_of-in-28 : goal.returns-in_err-word_of-in-28
returns-in_err-word_of-in-28 c = unnamed _ _ _ (grind arith) (grind (arith, nat_tests))

pub returns-in_err-word_of-in-29 : goal.returns-in_err-word_of-in-29
returns-in_err-word_of-in-29 c = unnamed _ _ _ (grind arith) (grind (arith, nat_tests))

pub returns-in_err-half_of-in-0-to-6 : goal.returns-in_err-half_of-in-0-to-6
returns-in_err-half_of-in-0-to-6 c = unnamed _ _ _ (grind arith) (grind (arith, nat_tests))

pub returns-in_err-byte_of-in_default : goal.returns-in_err-byte_of-in_default
returns-in_err-byte_of-in_default c = unnamed _ _ _ (grind arith) (grind (arith, nat_tests))
