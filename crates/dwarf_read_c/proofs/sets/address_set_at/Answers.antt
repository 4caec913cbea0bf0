use Rattle.dwarf_read_c.proofs.Common.{◌-◌, ◌^◌, address_header-sizes, addresses_of, arith, refl}
use Rattle.dwarf_read_c.proofs.FoundSets.{set_found, set_reported}
use Rattle.dwarf_read_c.proofs.sets.address_set_at.Goals as goal

pub returns-clause-found : goal.returns-clause-found
returns-clause-found g c =
    set_reported addresses_of _ (grind (arith, c.bytes.ensures.size, c.bytes.ensures.sized)) refl
    (set_found (address_header-sizes (2 ^ 64 - 1)) c.requires.starts c.in_ok-format.ensures.found)
    c.in_ok-format.ensures.ends (rw c.bytes.ensures.size at c.put_entries.ensures)
