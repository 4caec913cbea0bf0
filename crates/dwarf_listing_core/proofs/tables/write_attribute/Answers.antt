use Rattle.dwarf_listing_core.proofs.Common.{[], ◌∷◌, ◌≡◌, ◌++◌, ℕ, ℤ, List, Option, Appends, line}
use Rattle.std.proofs.Common.{codes, subst}
use Rattle.std.proofs.KnownBytes.{Appends-trans}
use Rattle.std.proofs.lemmas.Result.{on_ok_weaker}
use Rattle.dwarf_read_core.specs.DwAt.{attribute_text}
use Rattle.dwarf_read_core.specs.DwForm.{form_text}
use Rattle.dwarf_listing_core.specs.Tables.{value_text}
use Rattle.dwarf_listing_core.proofs.tables.write_attribute.Goals as goal

-- the parts of a line, of numbers that are equal to those of an attribute, are its line
parts_are_line : (a b c d e f g : Option (List ℕ)) {n name m form : ℕ} {v value : Option ℤ}
    → n ≡ name → m ≡ form → v ≡ value → Appends a b (codes "  ") → Appends b c (attribute_text n)
    → Appends c d (codes " ") → Appends d e (form_text m) → Appends e f (value_text v) → Appends f g (10 ∷ [])
    → Appends a g (line (codes "  " ++ attribute_text name ++ codes " " ++ form_text form ++ value_text value))
parts_are_line a b c d e f g names forms values p q r s t u =
    let to_space = Appends-trans a c d _ _ (Appends-trans a b c _ _ p q) r in
    let to_value = Appends-trans a e f _ _ (Appends-trans a d e _ _ to_space s) t in
    subst (Appends a g) (
    λ i. line (codes "  " ++ attribute_text (names i) ++ codes " " ++ form_text (forms i) ++ value_text (values i))
    ) (Appends-trans a f g _ _ to_value u)

pub returns : goal.returns
returns g c =
    on_ok_weaker _ (
    parts_are_line _ _ _ _ _ _ _ c.name-name.ensures c.form-form.ensures c.implicit_const_value.ensures.value
    c.in_ok-write_all.ensures.bytes c.in_ok-write_name.ensures c.in_ok-write_all-2.ensures.bytes
    c.in_ok-write_name-2.ensures c.in_ok-write_value.ensures
    ) c.write_all-3.ensures.bytes
