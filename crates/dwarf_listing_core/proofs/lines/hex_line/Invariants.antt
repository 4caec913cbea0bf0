use Rattle.dwarf_listing_core.proofs.Common.{◌≡◌, string_bytes, take, hex_text}
use Rattle.dwarf_listing_core.proofs.lines.hex_line.Given as goal

abbrev pub invariant-loop-i : goal.invariant-loop-i
invariant-loop-i l = string_bytes l.text ≡ hex_text (take l.i l.bytes)
