-- Arguments and an input have exactly one text or error.
use Rattle.dwarf_listing_core.proofs.Common.{◌≡◌, ℕ, List, Option, Some, None, Result, Ok, Err, refl, arith, Error, Kind, Number, HasOne, hex_text, line, IsTextOf, Lists, ListsNumber, Command}
use Rattle.dwarf_read_core.specs.Shortest.{IsShortest}
use Rattle.dwarf_listing_core.specs.declared.fault.Fault.{Fault}
use Rattle.dwarf_listing_core.specs.declared.fault.Fault.TheVariants.{Section, Usage}
use Rattle.dwarf_listing_core.proofs.OneText.{one_image}

-- a number has exactly one line
pub one_number : (k : Kind) (number : Number k) → HasOne (IsShortest k number) → HasOne (ListsNumber k number)
one_number k number has =
    one_image (λ bytes. Ok (line (hex_text bytes))) has (λ bytes shortest. (bytes, shortest, refl)) from
  where
    from : (listed : Result (List ℕ) Error) → ListsNumber k number listed
        → (bytes : List ℕ) × IsShortest k number bytes × (listed ≡ Ok (line (hex_text bytes)))
    from (Ok text) h = (h.0, h.1, λ i. Ok (h.2 i))
    from (Err e) h = absurd h

-- the result of the program for a listing
run_result_of : Result (List ℕ) Error → Result (List ℕ) Fault
run_result_of (Ok text) = Ok text
run_result_of (Err e) = Err (Section e)

-- arguments that name no command have no other result than a usage error
only_usage : (input : List ℕ) (other : Result (List ℕ) Fault) → IsTextOf None input other → other ≡ Err Usage
only_usage input other h = grind arith

-- a command, or none, has exactly one result
pub one_result : (c : Option Command) (input : List ℕ) → ((command : Command) → HasOne (Lists command input))
    → HasOne (IsTextOf c input)
unfolding run_result_of
one_result None input has = (Err Usage, refl, only_usage input)
one_result (Some c) input has = one_image run_result_of (has c) to from
  where
    to : (listed : Result (List ℕ) Error) → Lists c input listed → IsTextOf (Some c) input (run_result_of listed)
    to (Ok text) lists = lists
    to (Err e) lists = lists

    from : (result : Result (List ℕ) Fault) → IsTextOf (Some c) input result
        → (listed : Result (List ℕ) Error) × Lists c input listed × (result ≡ run_result_of listed)
    from (Ok text) h = (Ok text, h, refl)
    from (Err (Section e)) h = (Err e, h, refl)
    from (Err other) h = absurd (grind arith)
