-- Lists, item by item.
use Rattle.std.proofs.Common.{◌≡◌, ℕ, ◌+◌, ◌<◌, List, [], ◌∷◌, ◌++◌, map, drop, get_or, length, add-one}
use Rattle.std.proofs.Math.Seq.{drop-cons}
use Rattle.std.proofs.lemmas.List.{map-append, append_assoc}

-- the item at an index, and those after it
pub drop-here : {A : Type 0} (l : List A) (i : ℕ) (x : A) → i < length l → x ≡ get_or l i x
    → drop i l ≡ x ∷ drop (i + 1) l
drop-here l i x within is = let e = drop-cons l i x within in rw add-one (rw (← is) at e)

-- an item that was pushed comes before the others
pub pushed : {X Y : Type 0} (f : X → Y) (items : List X) (x : X) (xs : List Y)
    → map f (items ++ x ∷ []) ++ xs ≡ map f items ++ (f x ∷ xs)
pushed f items x xs = simp (map-append, append_assoc)
