-- How `parse` reads digits.
use Rattle.dwarf_listing_core.proofs.Common.{◌≡◌, ℕ, true, ◌+◌, ◌<◌, ◌≤◌, List, length, ℤ, neg_ℤ, rules, arith, Result, Ok, Err, option_map, nat_tests, common_steps, decimal_below, signed_of, unsigned_of, without_minus}
use Rattle.std.specs.Int.{w64}
use Rattle.std.proofs.lemmas.Str.Parse.{IsNumeralModel, numerals_by_value, parse_digits, parse_signed_digits, parse_signed_minus}
use Rattle.std.specs.Char.{is_ascii_digit}
use Rattle.std.specs.List.{list_all}
use Rattle.std.specs.Result.{result_ok, OkIff}
use Rattle.std.specs.Str.Parse.{digits_value, ParsesSigned, ParsesUnsigned}

-- a number that is parsed exactly if the digits are below a limit is the number below the limit
below_by_cases : {T E : Type 0} → (sign : ℕ → T) (limit : ℕ) (text : List ℕ) (parsed : Result T E)
    → list_all is_ascii_digit text ≡ true → OkIff parsed ((0 < length text) × (digits_value 10 text < limit))
    (sign (digits_value 10 text)) → result_ok parsed ≡ option_map sign (decimal_below limit text)
below_by_cases sign limit text parsed digits told = grind (arith, common_steps, nat_tests)

-- the test for digits and their value are those of `parse`
numerals : IsNumeralModel (λ text. list_all is_ascii_digit text ≡ true) (digits_value 10)
numerals = numerals_by_value _ (search rules)

-- a text of digits is parsed as the number of its digits
pub parsed_unsigned : {E : Type 0} → (text : List ℕ) (parsed : Result ℕ E) → ParsesUnsigned 64 10 text parsed
    → list_all is_ascii_digit text ≡ true → result_ok parsed ≡ unsigned_of text
parsed_unsigned text parsed told digits = grind (arith, below_by_cases, parse_digits, numerals)

-- a number that is at most a limit is below the next number
below_next : {T E : Type 0} → (parsed : Result T E) (text : List ℕ) (limit : ℕ) (value : T)
    → list_all is_ascii_digit text ≡ true → OkIff parsed
    ((list_all is_ascii_digit text ≡ true) × (0 < length text) × (digits_value 10 text ≤ limit)) value
    → OkIff parsed ((0 < length text) × (digits_value 10 text < limit + 1)) value
below_next (Ok n) text limit value digits told = ((told.0.1, omega arith), told.1)
below_next (Err e) text limit value digits told = λ inside. told (digits, inside.0, omega arith)

-- a text of digits after an optional minus is parsed as its signed number
pub parsed_signed : {E : Type 0} → (text : List ℕ) (parsed : Result ℤ E) → ParsesSigned w64 10 text parsed
    → list_all is_ascii_digit (without_minus text) ≡ true → result_ok parsed ≡ signed_of text
parsed_signed text parsed told digits = grind
    (arith, common_steps, below_by_cases, neg_ℤ, below_next, parse_signed_minus, parse_signed_digits, numerals)
