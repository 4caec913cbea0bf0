use Rattle.dwarf_read_core.proofs.Common.{Err, Error, IfErr, Input, IsNotEof, List, Ok, Result, followed_by, inl, inr, true, ℕ}
use Rattle.dwarf_read_core.specs.Lookups.{Stays}
use Rattle.dwarf_read_core.specs.Words.{Slot, WordAt}
use Rattle.dwarf_read_core.proofs.laws.kept_lookups_are_those_of_longer_sections.Goals as goal

-- what is kept is the result there
kept-is : (greatest : ℕ) (section : Input) (s : Slot) (result : Result ℕ Error) (more : List ℕ)
    → Stays (λ input. WordAt greatest input s) (λ x. x) true section result → IfErr result IsNotEof
    → WordAt greatest (followed_by section more) s result
kept-is greatest section s (Ok x) more is settled = (is.stays settled more).ok
kept-is greatest section s (Err e) more is settled = elim (is.stays settled more).err [
  | inl there ↦ there
  | inr want ↦ let costs = want.costs in absurd cc
]

pub returns : goal.returns
returns c = kept-is
