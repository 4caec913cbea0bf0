-- Sets have exactly one text or error.
use Rattle.dwarf_listing_core.proofs.Common.{◌-◌, ◌^◌, ◌<◌, ◌∷◌, ℕ, List, [], Result, Ok, Err, refl, Error, Input, HasOne, Remaining, Set, ListsItems, SetListing, HasSets, ListsLine, ListsSection, ListsSet}
use Rattle.dwarf_read_core.specs.Headers.{AddressHeaderRead}
use Rattle.dwarf_read_core.specs.Items.{AreItems, no_items, value_first, only_error}
use Rattle.dwarf_read_core.specs.Contributions.{FirstContribution}
use Rattle.dwarf_read_core.proofs.public.Contributions.{contribution_parts}
use Rattle.dwarf_read_core.proofs.public.Entries.{size-positive}
use Rattle.dwarf_read_core.proofs.public.Headers.{address_header-sized}
use Rattle.dwarf_listing_core.proofs.OneText.{one_after, one_joined}

-- items have exactly one text or error if each value has
one_of_items : {S A : Type 0} (Lists : A → Result (List ℕ) Error → Type 0) {rest : S → Input}
    {At : S → Result A Error × S → Type 0} {old : S} {items : List (Result A Error)}
    → ((old new : S) (x : A) → At old (Ok x, new) → HasOne (Lists x)) → AreItems rest At old items
    → HasOne (ListsItems Lists items)
one_of_items Lists law (no_items empty) = (Ok [], refl, λ other h. h)
one_of_items Lists law (only_error {e = e} some h) = (Err e, refl, λ other h. h)
one_of_items Lists law (value_first {now = old} {new = new} {x = x} some first others) =
    one_after (law old new x first) (λ own lists. one_joined own (one_of_items Lists law others))

-- lines have exactly one text or error
one_of_lines : (line_of : ℕ → List ℕ) (items : List (Result ℕ Error)) → HasOne (ListsItems (ListsLine line_of) items)
one_of_lines line_of [] = (Ok [], refl, λ other h. h)
one_of_lines line_of (Err e ∷ items) = (Err e, refl, λ other h. h)
one_of_lines line_of (Ok n ∷ items) =
    one_after (Ok (line_of n), refl, λ other same. same) (λ own lists. one_joined own (one_of_lines line_of items))

-- a set has exactly one text or error if it has exactly one list of entries
pub one_set : {H : Type 0} (listing : SetListing H) (s : Set H) → HasOne (listing.represents (listing.entries s))
    → HasOne (ListsSet listing s)
one_set listing s entries =
    one_joined (Ok (listing.header_line s))
    (one_after entries (λ items are. one_of_lines listing.entry_line items))

-- a section has exactly one text or error if it has exactly one list of sets, and each set one list of entries
pub one_section : {H : Type 0} (listing : SetListing H) (sets : Remaining)
    → ((old new : Remaining) (s : Set H) → FirstContribution listing.header (2 ^ 64 - 1) old (Ok s, new)
    → HasOne (listing.represents (listing.entries s)))
    → HasOne (HasSets listing sets) → HasOne (ListsSection listing sets)
one_section listing sets entries lists =
    one_after lists (λ items are.
    one_of_items (ListsSet listing) (λ old new s is. one_set listing s (entries old new s is)) are)

-- the address size of a set of addresses is above 0
pub address_size : {greatest : ℕ} (old new : Remaining) (s : Set ℕ)
    → FirstContribution AddressHeaderRead greatest old (Ok s, new) → 0 < s.header
address_size {greatest} old new s is =
    let parts = contribution_parts AddressHeaderRead greatest old.offset old.rest s new.rest is.0 in
    size-positive s.header (address_header-sized greatest s.format _ _ _ parts.said)
