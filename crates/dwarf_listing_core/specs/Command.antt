-- The commands, and the arguments that name them.
use Rattle.std.specs.Prelude.{◌≡◌, ℕ, Bool, true, false, IsTrue, List, [], ◌∷◌, Option, Some, None, IsSomeAnd, codes, if◌then◌else◌}
use Rattle.std.specs.Option.{option_map, option_map_or}
use Rattle.std.specs.Str.{bytes_eq}
use Rattle.dwarf_read_core.specs.declared.RunTimeEndian.{RunTimeEndian}
use Rattle.dwarf_read_core.specs.declared.RunTimeEndian.TheVariants.{Little, Big}
use Rattle.dwarf_listing_core.specs.Number.{signed_of, unsigned_of}
use Rattle.dwarf_listing_core.specs.declared.command.Command.{Command}
use Rattle.dwarf_listing_core.specs.declared.command.Command.TheVariants.{Abbrev, Str, Addr, Uleb, Sleb, AbbrevStrict, StrOffsets}

-- the byte order that a name means
abbrev pub endian_of : List ℕ → Option RunTimeEndian
endian_of name = if bytes_eq name (codes "le") then Some Little else if bytes_eq name (codes "be") then Some Big else None

-- the command that a name and its argument mean
abbrev pub named_command : List ℕ → List ℕ → Option Command
named_command name argument =
    if bytes_eq name (codes "abbrev") then option_map Abbrev (unsigned_of argument) else (
    if bytes_eq name (codes "str") then option_map Str (unsigned_of argument) else (
    if bytes_eq name (codes "addr") then option_map Addr (endian_of argument) else (
    if bytes_eq name (codes "uleb") then option_map Uleb (unsigned_of argument) else (
    if bytes_eq name (codes "sleb") then option_map Sleb (signed_of argument) else (
    if bytes_eq name (codes "abbrev-strict") then option_map AbbrevStrict (unsigned_of argument) else (
    if bytes_eq name (codes "str-offsets") then option_map StrOffsets (endian_of argument) else None))))))

-- the command that the arguments name
abbrev pub command_of : List (List ℕ) → Option Command
command_of (name ∷ argument ∷ []) = named_command name argument
command_of _ = None

-- whether the command reads the input
abbrev pub reads_input : Command → Bool
reads_input (Uleb _) = false
reads_input (Sleb _) = false
reads_input _ = true

-- the arguments name no command
abbrev pub IsUsage : List (List ℕ) → Type 0
IsUsage words = command_of words ≡ None

-- whether the arguments name a command that reads the input
abbrev pub reads : List (List ℕ) → Bool
reads words = option_map_or reads_input (command_of words) false

-- the bytes that a command is given: those of the input, or none if it reads no input
abbrev pub given : List (List ℕ) → Option (List ℕ) → Option (List ℕ)
given words remaining = if reads words then remaining else Some []

-- the arguments name a command that reads the input
abbrev pub ReadsInput : List (List ℕ) → Type 0
ReadsInput words = IsSomeAnd (command_of words) (λ command. IsTrue (reads_input command))
