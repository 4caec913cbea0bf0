-- How the program reports an error.
use Rattle.std.specs.Prelude.{◌≡◌, ◌<◌, ◌⊎◌, ℕ, List, ◌++◌, length, Option, Some, None, IfSome, ⊤, codes}
use Rattle.std.specs.Io.KnownBytes.{IsAtEnd}
use Rattle.dwarf_read_core.specs.ErrorText.{error_text}
use Rattle.dwarf_read_core.specs.declared.Error.TheVariants.{OutOfMemory}
use Rattle.dwarf_listing_core.specs.declared.fault.Fault.{Fault}
use Rattle.dwarf_listing_core.specs.declared.fault.Fault.TheVariants.{Section, Usage, Read, Write}

-- the line on standard error, without its line end
abbrev pub fault_text : Fault → List ℕ
fault_text (Section error) = codes "error: " ++ error_text error
fault_text Usage = codes "usage: dwarf_list abbrev OFFSET | str OFFSET | addr le|be | uleb N | sleb N | abbrev-strict OFFSET | str-offsets le|be"
fault_text Read = codes "error: cannot read input"
fault_text Write = codes "error: cannot write output"

-- the exit status
abbrev pub fault_status : Fault → ℕ
fault_status (Section _) = 1
fault_status Usage = 2
fault_status Read = 3
fault_status Write = 3

-- the error is that memory ran out
abbrev pub IsMemoryFault : Fault → Type 0
IsMemoryFault fault = fault ≡ Section OutOfMemory

-- an error of reading: the input failed, or memory ran out
abbrev pub IsReadFault : Fault → Type 0
IsReadFault (Section error) = error ≡ OutOfMemory
IsReadFault Read = ⊤
IsReadFault _ = ⊥

-- an input was read: its end, or some of its known bytes
abbrev pub WasRead : Option (List ℕ) → Option (List ℕ) → Type 0
WasRead None new = ⊤
WasRead (Some bytes) new = IsAtEnd new ⊎ IfSome new (λ left. length left < length bytes)
