use Rattle.dwarf_unit_core.proofs.UnitHeaders.{unit_header-size}
use Rattle.dwarf_unit_core.proofs.laws.headers_of_units_have_their_size.Goals as goal

pub returns : goal.returns
returns c = λ code greatest format. (unit_header-size code greatest format).takes
