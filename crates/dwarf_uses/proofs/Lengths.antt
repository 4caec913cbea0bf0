-- The lengths of tables, one by one.
use Rattle.std.proofs.Common.{◌≡◌, ℕ, suc, ◌+◌, ◌<◌, List, [], ◌∷◌, ◌++◌, ap, ◌∙◌, drop, get_or, length, map, take}
use Rattle.std.proofs.Math.Seq.{split_at}
use Rattle.std.proofs.lemmas.List.{map-append, map_more}
use Rattle.dwarf_read_core.specs.Input.{Input}
use Rattle.dwarf_uses.specs.Callers.{HasLength, HaveLengths}

-- the tables at some offsets have their lengths, and so has one more
lengths_more : (section : Input) (offsets ns : List ℕ) (offset n : ℕ) → HaveLengths section offsets ns
    → HasLength section offset n → HaveLengths section (offsets ++ offset ∷ []) (ns ++ n ∷ [])
lengths_more section [] [] offset n have one = (one, tt)
lengths_more section (o ∷ os) (m ∷ ms) offset n have one = (have.0, lengths_more section os ms offset n have.1 one)
lengths_more section [] (m ∷ ms) offset n have one = absurd have
lengths_more section (o ∷ os) [] offset n have one = absurd have

module _ {A : Type 0} (number : A → ℕ) (items : List A) (i : ℕ) (item : A) (within : i < length items)
    (is : get_or items i item ≡ item) where
  -- the numbers of items, around one of them
  pub numbers_around : map number items ≡ map number (take i items) ++ number item ∷ map number (drop (suc i) items)
  numbers_around = ap (map number) (split_at items i item within) ∙ rw (map-append, is)

  -- the tables at the numbers of the first items have their lengths, and so has the one of the next
  pub lengths_next : (section : Input) (ns : List ℕ) (n : ℕ) → HaveLengths section (map number (take i items)) ns
      → HasLength section (number item) n → HaveLengths section (map number (take (i + 1) items)) (ns ++ n ∷ [])
  lengths_next section ns n have one =
      rw (map_more number items i item within, is) (lengths_more section _ ns _ n have one)
