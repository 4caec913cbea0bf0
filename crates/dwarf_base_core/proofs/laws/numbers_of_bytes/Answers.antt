use Rattle.dwarf_base_core.proofs.NumberLaws.{number_is_bounded, number_determines_bytes}
use Rattle.dwarf_base_core.proofs.laws.numbers_of_bytes.Goals as goal

pub returns-clause-bounded : goal.returns-clause-bounded
returns-clause-bounded c = number_is_bounded

pub returns-clause-determined : goal.returns-clause-determined
returns-clause-determined c = number_determines_bytes
