use Rattle.dwarf_listing_core.proofs.Common.{arith, append_assoc, common_steps}
use Rattle.dwarf_listing_core.proofs.sets.push_address_header.Goals as goal

pub returns : goal.returns
returns c = grind (arith, common_steps, append_assoc)
