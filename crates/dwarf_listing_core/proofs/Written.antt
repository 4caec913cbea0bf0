-- What consecutive writes leave.
use Rattle.dwarf_listing_core.proofs.Common.{ℕ, Option, List, [], ◌∷◌, ◌++◌, flat_map, common_steps, Appends}
use Rattle.std.proofs.Common.{subst}
use Rattle.std.proofs.KnownBytes.{Appends-trans}
use Rattle.std.proofs.lemmas.List.{flat_map_more}

-- two texts that are written in order are one
pub ruleset one_text = (common_steps, Appends-trans)

-- the texts of the items so far, and that of the next one, are those of one item more
pub text_more : {A : Type 0} (text_of : A → List ℕ) (old now new : Option (List ℕ)) (items : List A) (next : A)
    → Appends old now (flat_map text_of items) → Appends now new (text_of next)
    → Appends old new (flat_map text_of (items ++ next ∷ []))
text_more text_of old now new items next before one =
    subst (Appends old new) (flat_map_more text_of [] items next) (Appends-trans old now new _ _ before one)
