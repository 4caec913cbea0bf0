use Rattle.dwarf_listing_core.proofs.Common.{common_steps, arith, ◌≡◌, ℕ, Bool, true, false, List, [], Option, Some, None, Result, Ok, Err, IsTrue, refl, map, string_bytes, command_of, Command}
use Rattle.std.specs.Prelude.{IfSome, OnOk, if◌then◌else◌}
use Rattle.dwarf_listing_core.specs.Command.{given, reads_input}
use Rattle.dwarf_listing_core.specs.Text.{IsText, text_bytes}
use Rattle.std.specs.Io.KnownBytes.{Appends}
use Rattle.dwarf_listing_core.proofs.run.run.Goals as goal

-- the bytes that a named command is given are those that were read, if these are known, or none
given_bytes : (words : List (List ℕ)) (remaining : Option (List ℕ)) (command : Command) (bytes : List ℕ)
    → command_of words ≡ Some command → (IsTrue (reads_input command) → IfSome remaining (λ left. bytes ≡ left))
    → (reads_input command ≡ false → bytes ≡ []) → IfSome (given words remaining) (λ left. bytes ≡ left)
given_bytes words remaining command bytes named read none = rw named (by_reads (reads_input command) refl)
  where
    by_reads : (b : Bool) → reads_input command ≡ b → IfSome (if b then remaining else Some []) (λ left. bytes ≡ left)
    by_reads true is = read (grind arith)
    by_reads false is = none is

-- what holds of the bytes that were read holds of the given ones
of_given : (given : Option (List ℕ)) (bytes : List ℕ) (P : List ℕ → Type 0) → IfSome given (λ left. bytes ≡ left)
    → P bytes → IfSome given P
of_given None bytes P same holds = tt
of_given (Some left) bytes P same holds = rw (← same) holds

-- what is appended on success is the text
appended : {X E : Type 0} (A : List ℕ → Type 0) (P : List ℕ → List ℕ → Type 0) (given : Option (List ℕ))
    (r : Result X E) (bytes text : List ℕ) → IfSome given (λ left. bytes ≡ left) → P bytes text → OnOk r (A text)
    → OnOk r (IfSome given (λ left. (x : List ℕ) × P left x × A x))
appended A P given (Ok x) bytes text same listed written =
    of_given given bytes (λ left. (x : List ℕ) × P left x × A x) same (text, listed, written)
appended A P given (Err e) bytes text same listed written = tt

pub returns-clause-written : goal.returns-clause-written
returns-clause-written g c =
    let words = map string_bytes c.args.words.now in
    let command = c.in_ok-command.command in
    let bytes = c.if-reads_input.bytes.items in
    let remaining = g.I.Read.remaining c.args.input.now in
    let named : command_of words ≡ Some command = grind (arith, common_steps) in
    let read : IsTrue (reads_input command) → IfSome remaining (λ left. bytes ≡ left) = grind (arith, common_steps) in
    let none : reads_input command ≡ false → bytes ≡ [] = grind (arith, common_steps) in
    appended (Appends _ _) (λ left text. IsText words left (Ok text)) (given words remaining) _ bytes _
    (given_bytes words remaining command bytes named read none) (rw named c.in_ok-text.ensures)
    c.write_output.ensures.written

pub returns-clause-write : goal.returns-clause-write
returns-clause-write g c failed =
    let words = map string_bytes c.args.words.now in
    let command = c.in_ok-command.command in
    let bytes = c.if-reads_input.bytes.items in
    let remaining = g.I.Read.remaining c.args.input.now in
    let named : command_of words ≡ Some command = grind (arith, common_steps) in
    let read : IsTrue (reads_input command) → IfSome remaining (λ left. bytes ≡ left) = grind (arith, common_steps) in
    let none : reads_input command ≡ false → bytes ≡ [] = grind (arith, common_steps) in
    of_given (given words remaining) bytes (λ left. (text : List ℕ) × IsText words left (Ok text))
    (given_bytes words remaining command bytes named read none)
    (text_bytes c.in_ok-text.text, rw named c.in_ok-text.ensures)
