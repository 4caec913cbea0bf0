use Rattle.dwarf_read_c.proofs.Common.{◌-◌, ◌^◌, string_offsets_header-sizes, string_offsets_of, arith, refl}
use Rattle.dwarf_read_c.proofs.FoundSets.{set_found, set_reported}
use Rattle.dwarf_read_c.proofs.sets.str_offset_set_at.Goals as goal

pub returns-clause-found : goal.returns-clause-found
returns-clause-found g c =
    set_reported string_offsets_of _ (grind arith) refl
    (set_found (string_offsets_header-sizes (2 ^ 64 - 1)) c.requires.starts c.in_ok-format.ensures.found)
    c.in_ok-format.ensures.ends (rw c.word_size.ensures at c.put_entries.ensures)
