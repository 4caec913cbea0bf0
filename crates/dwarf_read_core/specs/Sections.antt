-- The readers that sections hold.
use Rattle.dwarf_read_core.specs.declared.read.abbrev.DebugAbbrev.{DebugAbbrev}
use Rattle.dwarf_read_core.specs.declared.read.addr.DebugAddr.{DebugAddr}
use Rattle.dwarf_read_core.specs.declared.read.str.DebugStr.{DebugStr}
use Rattle.dwarf_read_core.specs.declared.read.str.DebugStrOffsets.{DebugStrOffsets}
use Rattle.dwarf_read_core.specs.declared.read.str.DebugLineStr.{DebugLineStr}

module _ {R : Type 0} where
  abbrev pub debug_abbrev_reader : DebugAbbrev R → R
  debug_abbrev_reader section = section.debug_abbrev_section

  abbrev pub debug_addr_reader : DebugAddr R → R
  debug_addr_reader section = section.section

  abbrev pub debug_str_reader : DebugStr R → R
  debug_str_reader section = section.debug_str_section

  abbrev pub debug_str_offsets_reader : DebugStrOffsets R → R
  debug_str_offsets_reader section = section.section

  abbrev pub debug_line_str_reader : DebugLineStr R → R
  debug_line_str_reader section = section.section
