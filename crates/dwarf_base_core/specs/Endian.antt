-- The byte order that is chosen at run time.
use Rattle.std.specs.Prelude.{Bool, true, false}
use Rattle.dwarf_base_core.specs.declared.endianity.RunTimeEndian.{RunTimeEndian}
use Rattle.dwarf_base_core.specs.declared.endianity.RunTimeEndian.TheVariants.{Little, Big}

-- whether the highest byte comes first
abbrev pub is_big_at_run_time : RunTimeEndian → Bool
is_big_at_run_time Little = false
is_big_at_run_time Big = true
