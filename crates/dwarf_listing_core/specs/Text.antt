-- What the program writes.
use Rattle.std.specs.Prelude.{◌≡◌, ℕ, List, Option, Result, Ok, Err, None, IsSomeAnd}
use Rattle.dwarf_read_core.specs.declared.Error.{Error}
use Rattle.dwarf_read_core.specs.Leb128.{Kind, Number, unsigned64, signed64}
use Rattle.dwarf_read_core.specs.Shortest.{IsShortest}
use Rattle.dwarf_listing_core.specs.Lines.{ListsString, hex_text, line}
use Rattle.dwarf_listing_core.specs.Sets.{ListsAddresses, ListsStringOffsets}
use Rattle.dwarf_listing_core.specs.Tables.{ListsStrictTable, ListsTable, table_text}
use Rattle.dwarf_listing_core.specs.Command.{command_of}
use Rattle.dwarf_listing_core.specs.declared.command.Command.{Command}
use Rattle.dwarf_listing_core.specs.declared.command.Command.TheVariants.{Abbrev, Str, Addr, Uleb, Sleb, AbbrevStrict, StrOffsets}
use Rattle.dwarf_listing_core.specs.declared.fault.Fault.{Fault}
use Rattle.dwarf_listing_core.specs.declared.fault.Fault.TheVariants.{Section, Usage}
use Rattle.dwarf_listing_core.specs.declared.listing.Text.{Text}
use Rattle.dwarf_listing_core.specs.declared.listing.Text.TheVariants.{Table, Bytes}

-- the bytes of a text
abbrev pub text_bytes : Text → List ℕ
text_bytes (Table t) = table_text t
text_bytes (Bytes bytes) = bytes.items

-- the shortest encoding of a number, in hexadecimal, and never an error
abbrev pub ListsNumber : (k : Kind) → Number k → Result (List ℕ) Error → Type 0
ListsNumber k number (Ok text) = (bytes : List ℕ) × IsShortest k number bytes × (text ≡ line (hex_text bytes))
ListsNumber k number (Err error) = ⊥

-- the text that a command prints of an input, or the error of the section
abbrev pub Lists : Command → List ℕ → Result (List ℕ) Error → Type 0
Lists (Abbrev offset) input = ListsTable input offset
Lists (Str offset) input = ListsString input offset
Lists (Addr endian) input = ListsAddresses endian input
Lists (Uleb value) input = ListsNumber unsigned64 value
Lists (Sleb value) input = ListsNumber signed64 value
Lists (AbbrevStrict offset) input = ListsStrictTable input offset
Lists (StrOffsets endian) input = ListsStringOffsets endian input

-- the text that a command prints of an input, or its error; without a command the error is that of the usage
abbrev pub IsTextOf : Option Command → List ℕ → Result (List ℕ) Fault → Type 0
IsTextOf named input (Ok text) = IsSomeAnd named (λ command. Lists command input (Ok text))
IsTextOf named input (Err (Section error)) = IsSomeAnd named (λ command. Lists command input (Err error))
IsTextOf named input (Err Usage) = named ≡ None
IsTextOf named input (Err _) = ⊥

-- the text that the arguments request of an input, or the error
abbrev pub IsText : List (List ℕ) → List ℕ → Result (List ℕ) Fault → Type 0
IsText words input result = IsTextOf (command_of words) input result
