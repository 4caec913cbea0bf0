-- The readers that sections hold.
use Rattle.dwarf_unit_core.specs.declared.info.DebugInfo.{DebugInfo}
use Rattle.dwarf_unit_core.specs.declared.types.DebugTypes.{DebugTypes}

module _ {R : Type 0} where
  abbrev pub debug_info_reader : DebugInfo R → R
  debug_info_reader section = section.section

  abbrev pub debug_types_reader : DebugTypes R → R
  debug_types_reader section = section.section
