use Rattle.std.proofs.Common.{arith}
use Rattle.dwarf_base_core.proofs.Numbers.{big_number-padded, little_number-padded}
use Rattle.dwarf_base_core.proofs.endianity.Endianity.read_uint.Goals as goal
use Rattle.dwarf_base_core.proofs.endianity.Endianity.read_uint.Goals.{then-is_big_endian, else-is_big_endian}

pub returns-clause-number : goal.returns-clause-number
returns-clause-number g c =
    grind (arith, then-is_big_endian, big_number-padded, else-is_big_endian, little_number-padded)
