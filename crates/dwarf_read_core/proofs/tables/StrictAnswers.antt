-- The strict result follows from the result.
use Rattle.dwarf_read_core.proofs.Common.{arith, ℕ, List, Result, Err, refl, ap, ◌∙◌, Error, UnterminatedAbbreviations, Input, HasOne, Table, followed_by, strictly, StrictAnswer, AnswersStrictly, IsStrictlyFinal}
use Rattle.dwarf_base_core.specs.declared.reader_offset.ReaderOffsetId.{ReaderOffsetId}
use Rattle.dwarf_read_core.proofs.tables.AppendedBytes.{answer_more}
use Rattle.dwarf_read_core.proofs.tables.ExactlyOneAnswer.{answer_exactly_one}

-- a section has exactly one strict result at each offset
pub strict_answer_exactly_one : (section : Input) (offset : ℕ) → HasOne (StrictAnswer section offset)
strict_answer_exactly_one section offset =
    let one = answer_exactly_one section offset in
    (strictly section one.0, (one.0, one.1, refl), λ other is. is.2 ∙ ap (strictly section) (one.2 is.0 is.1))

-- a strict result that is final is still the strict result when bytes are appended
pub strict_answer_more : (section : Input) (more : List ℕ) (offset : ℕ) (strict : Result Table Error)
    → StrictAnswer section offset strict → IsStrictlyFinal strict
    → StrictAnswer (followed_by section more) offset strict
strict_answer_more section more offset strict is final = grind (arith, answer_more)

-- a strict result that a call returned, and that is final, is still the section's when bytes are appended
pub strictly_stays : (strict : Result Table Error) (section : Input) (offset : ℕ)
    → AnswersStrictly strict section offset → IsStrictlyFinal strict → (more : List ℕ)
    → AnswersStrictly strict (followed_by section more) offset
strictly_stays strict section offset h final more = grind (arith, strict_answer_more)

-- the error for an unclosed table isn't final at any position, so nothing is said of it when bytes are appended
pub unclosed_stays : (id : ReaderOffsetId) (section : Input) (offset : ℕ)
    → IsStrictlyFinal (Err (UnterminatedAbbreviations id)) → (more : List ℕ)
    → AnswersStrictly (Err (UnterminatedAbbreviations id)) (followed_by section more) offset
unclosed_stays id section offset final more = absurd (final.1 id.0 refl)
