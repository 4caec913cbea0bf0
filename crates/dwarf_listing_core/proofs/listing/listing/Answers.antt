use Rattle.std.proofs.Common.{◌≡◌, ℕ, List, Result, Ok, Err, IsOkAnd, MatchResult, rules, subst, sym, vec_items}
use Rattle.dwarf_read_core.specs.declared.Error.{Error}
use Rattle.dwarf_read_core.specs.Lookups.{UnlessOutOfMemory}
use Rattle.dwarf_listing_core.specs.Lines.{ListsString}
use Rattle.dwarf_listing_core.specs.Text.{text_bytes}
use Rattle.dwarf_listing_core.proofs.listing.listing.Goals as goal

-- a result whose value is mapped to one that is seen as the same is allowed, too
text_mapped : {X Y : Type 0} (Is : Result (List ℕ) Error → Type 0) (view : X → List ℕ) (seen : Y → List ℕ)
    {Post : X → Y → Type 0} (r : Result X Error) (s : Result Y Error) → ((x : X) (y : Y) → Post x y → seen y ≡ view x)
    → MatchResult r (λ x. IsOkAnd s (Post x)) (λ e. s ≡ Err e) → UnlessOutOfMemory Is view r
    → UnlessOutOfMemory Is seen s
text_mapped Is view seen (Ok x) (Ok y) same mapped is = subst (λ text. Is (Ok text)) (sym (same x y mapped)) is
text_mapped Is view seen (Ok x) (Err e) same mapped is = absurd mapped
text_mapped Is view seen (Err e) s same mapped is = rw mapped is

pub returns-in-Str : goal.returns-in-Str
returns-in-Str c =
    rw c.in-Str.is (text_mapped (ListsString c.args.input.items c.in-Str.offset) vec_items text_bytes _ _
    (λ x y post. search rules) c.map.ensures.cases c.string_in_place.ensures.answer)
