use Rattle.dwarf_reader_core.proofs.Common.{◌≡◌, ◌%◌, ◌*◌, ◌/◌, arith, bit_and, and_pow}
use Rattle.std.proofs.lemmas.Bool.Decides.{nat_tests}
use Rattle.dwarf_reader_core.proofs.leb128.has_sign_bit.Goals as goal

pub returns : goal.returns
returns c =
    let bit : bit_and c.args.byte 64 ≡ c.args.byte / 64 % 2 * 64 = and_pow c.args.byte 6 in
    rw bit (grind (arith, nat_tests))
