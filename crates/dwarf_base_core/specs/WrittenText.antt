-- How the text of an error is written. No public clause about a result cites this file.
use Rattle.std.specs.Prelude.{ℕ, List, ◌++◌}
use Rattle.std.specs.Fmt.{decimal}
use Rattle.dwarf_base_core.specs.ErrorText.{hexadecimal}
use Rattle.dwarf_base_core.specs.declared.error.Text.{Text}
use Rattle.dwarf_base_core.specs.declared.error.Text.TheVariants.{Plain, Decimal, Hexadecimal, HexadecimalInside}

-- the parts of a text, with the number in its place
abbrev pub written : Text → List ℕ
written (Plain text) = text.now
written (Decimal before value) = before.now ++ decimal value
written (Hexadecimal before value) = before.now ++ hexadecimal value
written (HexadecimalInside before value after) = before.now ++ hexadecimal value ++ after.now
