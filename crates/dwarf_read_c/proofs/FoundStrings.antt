-- A string that was found is a part of its section.
use Rattle.dwarf_read_c.proofs.Common.{ℕ, length, Ok, subst, Input, StringAt, part_of}
use Rattle.dwarf_read_core.proofs.public.Lookups.{string-first}
use Rattle.dwarf_read_c.proofs.KnownErrors.{known_string}

-- the part of the section at the offset and of the found length is the string there
pub part_is_string : (section : Input) (offset : ℕ) (found : Input) → StringAt section offset (Ok found)
    → StringAt section offset (Ok (part_of section offset (length found.bytes)))
part_is_string section offset found at =
    subst (λ part. StringAt section offset (Ok part)) (string-first section offset found at).1 at

-- what is known of a string that was found or of an error in its place
pub ruleset string_steps = (part_is_string, known_string)
