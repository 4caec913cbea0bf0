use Rattle.dwarf_reader_core.proofs.Common.{arith, inr, refl, ◌<◌, ◌≤◌, ℕ, Result, Ok, Err}
use Rattle.std.specs.Result.{OkIff, IsErr}
use Rattle.dwarf_base_core.specs.declared.error.Error.TheVariants.{BadUnsignedLeb128}
use Rattle.dwarf_reader_core.proofs.public.Results.{replaced-err}
use Rattle.dwarf_reader_core.proofs.reader.Reader.read_uleb128_u32.Goals as goal

-- a number that no u32 is made of is too large for one
too_large : {E : Type 0} {number bound : ℕ} (made : Result ℕ E) → OkIff made (number < bound) number → IsErr made
    → bound ≤ number
too_large (Ok x) is failed = absurd (cc)
too_large (Err e) is failed = omega (arith, is)

pub returns-clause-err : goal.returns-clause-err
returns-clause-err g c =
    replaced-err _ BadUnsignedLeb128 c.try_from.result c.map_err.result c.map_err.ensures.cases
    (λ e made is. grind arith) (λ failed. inr (record {
      number = _;
      taken = c.in_ok-value.ensures.ok;
      over = too_large c.try_from.result c.try_from.ensures failed;
      fault = refl;
    }))
