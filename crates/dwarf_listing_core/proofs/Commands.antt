-- Arguments of the command line that name no command.
use Rattle.dwarf_listing_core.proofs.Common.{arith, length-map, ◌≡◌, ◌≢◌, ℕ, List, length, None, command_of}

-- arguments other than two name no command
pub command_of-other : (words : List (List ℕ)) → length words ≢ 2 → None ≡ command_of words
command_of-other words other = grind arith

-- what says that no other number of words names a command
pub ruleset other_commands = (command_of-other, length-map)
