use Rattle.dwarf_listing_core.proofs.Common.{[], ◌∷◌, ◌≡◌, ◌++◌, ℕ, Bool, true, false, List, Option, Appends, append_assoc, arith, line}
use Rattle.std.proofs.Common.{codes, decimal, subst}
use Rattle.std.proofs.KnownBytes.{Appends-trans}
use Rattle.std.proofs.lemmas.Result.{on_ok_weaker}
use Rattle.dwarf_read_core.specs.DwTag.{tag_text}
use Rattle.dwarf_listing_core.specs.Tables.{yes_or_no}
use Rattle.dwarf_listing_core.proofs.tables.write_head.Goals as goal

-- a text, a space, another text and a line end are a line
ends_line : (x y : List ℕ) → x ++ (32 ∷ y ++ 10 ∷ []) ≡ line (x ++ codes " " ++ y)
ends_line x y = grind (arith, append_assoc)

-- a declaration's parts, appended one after the other, are its line
parts_are_line : (a b c d e : Option (List ℕ)) (code : ℕ) {text : List ℕ} {m tag : ℕ} (has : Bool) {children : Bool}
    → text ≡ decimal code → m ≡ tag → has ≡ children → Appends a b text → Appends b c (codes " ")
    → Appends c d (tag_text m) → Appends d e (32 ∷ yes_or_no has ++ 10 ∷ [])
    → Appends a e (line (decimal code ++ codes " " ++ tag_text tag ++ codes " " ++ yes_or_no children))
parts_are_line a b c d e code {text} {m} {tag} has {children} texts tags same p q r s =
    let to_name = Appends-trans a c d _ _ (Appends-trans a b c _ _ p q) r in
    let whole = subst (Appends a e) (ends_line (text ++ codes " " ++ tag_text m) (yes_or_no has))
    (Appends-trans a d e _ _ to_name s) in
    subst (Appends a e) (λ i. line (texts i ++ codes " " ++ tag_text (tags i) ++ codes " " ++ yes_or_no (same i))) whole

pub returns-then-has_children : goal.returns-then-has_children
returns-then-has_children g c =
    on_ok_weaker _ (
    parts_are_line _ _ _ _ _ _ true (cc) c.tag-tag.ensures c.if-has_children.ensures
    c.in_ok-write_all.ensures.bytes c.in_ok-write_all-2.ensures.bytes c.in_ok-write_name.ensures
    ) c.write_all-then-has_children.ensures.bytes

pub returns-else-has_children : goal.returns-else-has_children
returns-else-has_children g c =
    on_ok_weaker _ (
    parts_are_line _ _ _ _ _ _ false (cc) c.tag-tag.ensures c.if-has_children.ensures
    c.in_ok-write_all.ensures.bytes c.in_ok-write_all-2.ensures.bytes c.in_ok-write_name.ensures
    ) c.write_all-else-has_children.ensures.bytes
