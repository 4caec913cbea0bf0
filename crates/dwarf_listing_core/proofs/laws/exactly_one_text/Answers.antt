use Rattle.dwarf_listing_core.proofs.Common.{ℕ, List, unsigned64, signed64, HasOne, command_of, Lists, Command}
use Rattle.dwarf_listing_core.specs.declared.command.Command.TheVariants.{Abbrev, Str, Addr, Uleb, Sleb, AbbrevStrict, StrOffsets}
use Rattle.dwarf_read_core.proofs.public.Items.{same_of_one}
use Rattle.dwarf_listing_core.proofs.Texts.{one_number, one_result}
use Rattle.dwarf_listing_core.proofs.laws.exactly_one_text.Goals as goal

-- a command has exactly one text or error of an input
one_listing : (c : goal.After-exactly_one_shortest) (command : Command) (input : List ℕ) → HasOne (Lists command input)
one_listing c (Abbrev offset) input = c.exactly_one_listing.ensures.table input offset
one_listing c (Str offset) input = c.exactly_one_listing.ensures.string input offset
one_listing c (Addr endian) input = c.exactly_one_listing.ensures.addresses endian input
one_listing c (Uleb value) input = one_number unsigned64 value (c.exactly_one_shortest.ensures unsigned64 value)
one_listing c (Sleb value) input = one_number signed64 value (c.exactly_one_shortest.ensures signed64 value)
one_listing c (AbbrevStrict offset) input = c.exactly_one_listing.ensures.strict input offset
one_listing c (StrOffsets endian) input = c.exactly_one_listing.ensures.string_offsets endian input

pub returns : goal.returns
returns c = record {
  text = λ words input. one_result (command_of words) input (λ command. one_listing c command input);
  listing = λ command input one other lists_one lists_other.
      same_of_one (one_listing c command input) lists_other lists_one;
}
