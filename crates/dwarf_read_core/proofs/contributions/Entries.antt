-- Bytes have exactly one list of entries, and `next` returns the first.
use Rattle.dwarf_read_core.proofs.Common.{common_steps, ◌≡◌, ℕ, zero, suc, ◌+◌, ◌-◌, ◌*◌, ◌/◌, ◌<◌, ◌≤◌, cond, ◌∷◌, sum_by-cons, List, length, Result, Ok, sym, ap, subst, arith, inl, inr, IsTrue, Error, is_number_size, ReadsNoAddress, Input, after, TakesNumber, HasOne, Entries, Takes, IsTooShort, rest-length}
use Rattle.std.specs.Prelude.{slice_get, count_by, is_ok, IfSome}
use Rattle.std.proofs.lemmas.Nat.{div-mul-add}
use Rattle.std.proofs.Math.Nat.{suc-mul}
use Rattle.dwarf_base_core.specs.declared.common.Format.{Format}
use Rattle.dwarf_base_core.specs.Format.{word_size}
use Rattle.dwarf_reader_core.specs.Readings.{NumberRead, Reading, WordRead}
use Rattle.dwarf_reader_core.proofs.public.Readings.{number-is, word-is}
use Rattle.dwarf_read_core.specs.Entries.{RepresentsAddresses, RepresentsStringOffsets}
use Rattle.dwarf_read_core.specs.Items.{AreItems, no_items, value_first, only_error}
use Rattle.dwarf_read_core.proofs.contributions.ItemLists.{TakesLeast, items-exactly_one}

-- a number that is taken leaves as many bytes fewer
number-shorter : {n x : ℕ} {old new : Input} → TakesNumber n old x new → length new.bytes + n ≤ length old.bytes
number-shorter {n} {old = old} {new = new} takes =
    let taken : Takes n old new = record { enough = takes.enough; left = takes.left } in
    omega (arith, takes.enough, rest-length n old new taken)

-- an address takes as many bytes as its width
pub address-least : (width : ℕ) → TakesLeast (λ (i : Input). i) (NumberRead width) (λ _. width)
address-least width = record { by = λ old new x takes. number-shorter takes }

-- and so does a string offset
pub string_offset-least : (greatest width : ℕ) → TakesLeast (λ (i : Input). i) (WordRead greatest width) (λ _. width)
string_offset-least greatest width = record { by = λ old new x is. number-shorter is.0 }

-- the bytes that remain have exactly one list of addresses
pub addresses_exactly_one : (entries : Entries) → 0 < entries.width → HasOne (RepresentsAddresses entries)
addresses_exactly_one entries positive =
    items-exactly_one (number-is entries.width).decided.one (address-least entries.width) (λ x. positive) entries.rest

-- and of string offsets
pub string_offsets_exactly_one : (greatest : ℕ) (entries : Entries) → 0 < entries.width
    → HasOne (RepresentsStringOffsets greatest entries)
string_offsets_exactly_one greatest entries positive =
    items-exactly_one (word-is greatest entries.width).decided.one (string_offset-least greatest entries.width) (λ x. positive)
    entries.rest

-- an address that isn't read is cut
pub address_not_read : {width : ℕ} {old new : Input} {e : Error} → IsTrue (is_number_size width)
    → ReadsNoAddress width old e new → IsTooShort width old e new
address_not_read sized (inl size) = absurd (let n = size.none in cc)
address_not_read sized (inr short) = short.1

-- a size of addresses is above 0
pub size-positive : (width : ℕ) → IsTrue (is_number_size width) → 0 < width
size-positive width sized = grind arith

-- a word has at least one byte
pub word_size-positive : (format : Format) → 0 < word_size format
word_size-positive format = grind arith

-- ---- entries by their index, and how many there are

-- the bytes after an entry and others are those after one more
after_entry : (width index : ℕ) (old : Input) → after (index * width) (after width old) ≡ after (suc index * width) old
after_entry width index old = grind (arith, common_steps, suc-mul)

-- after no entries are all bytes
after_none : (width : ℕ) (old : Input) → old ≡ after (0 * width) old
after_none width old = grind (arith, common_steps)

module _ {At : Reading ℕ} (width : ℕ)
    (leaves : (old new : Input) (x : ℕ) → At old (Ok x, new) → new ≡ after width old) where
  -- the item with an index is the entry after those before it
  item_at : {old : Input} {items : List (Result ℕ Error)} → AreItems (λ i. i) At old items → (index : ℕ)
      → IfSome (slice_get items index) (λ r. (new : Input) × At (after (index * width) old) (r, new))
  item_at (no_items empty) index = tt
  item_at (value_first {now = old} {new = new} some at others) zero = rw (← after_none width old) (new, at)
  item_at (value_first {now = old} {new = new} {x = x} {items = items} some at others) (suc index) =
      rw (← after_entry width index old)
      (subst (λ i. IfSome (slice_get items index) (λ r. (last : Input) × At (after (index * width) i) (r, last)))
      (leaves old new x at) (item_at others index))
  item_at (only_error {now = old} {new = new} some at) zero = rw (← after_none width old) (new, at)
  item_at (only_error some at) (suc index) = tt

-- the address with an index is the number of the bytes at its place
pub address_at : (entries : Entries) (items : List (Result ℕ Error)) (index : ℕ) → RepresentsAddresses entries items
    → IfSome (slice_get items index)
    (λ r. (new : Input) × NumberRead entries.width (after (index * entries.width) entries.rest) (r, new))
address_at entries items index are = item_at entries.width (λ old new x takes. takes.left) are index

-- and so is the string offset with an index
pub string_offset_at : (greatest : ℕ) (entries : Entries) (items : List (Result ℕ Error)) (index : ℕ)
    → RepresentsStringOffsets greatest entries items
    → IfSome (slice_get items index)
    (λ r. (new : Input) × WordRead greatest entries.width (after (index * entries.width) entries.rest) (r, new))
string_offset_at greatest entries items index are = item_at entries.width (λ old new x is. is.0.left) are index

module _ (width : ℕ) (positive : 0 < width) where
  -- as many addresses fit into the bytes, and one more doesn't
  counted : {old : Input} {items : List (Result ℕ Error)} → AreItems (λ i. i) (NumberRead width) old items
      → (count_by is_ok items * width ≤ length old.bytes)
      × (length old.bytes < count_by is_ok items * width + width)
  counted (no_items empty) = (omega arith, omega (arith, ap length empty, positive))
  counted (value_first {now = old} {new = new} {x = x} {items = items} some takes others) =
      let following = counted others in
      let all : count_by is_ok (Ok x ∷ items) * width ≡ count_by is_ok items * width + width =
      rw (sum_by-cons (λ (r : Result ℕ Error). cond (is_ok r) 1 0) (Ok x) items) (grind (arith, suc-mul)) in
      let taken : Takes width old new = record { enough = takes.enough; left = takes.left } in
      let long = rest-length width old new taken in (
        omega (arith, following.0, long, all, takes.enough),
        omega (arith, following.1, long, all, takes.enough),
      )
  counted (only_error some short) = (omega arith, omega (arith, short.short))

-- as many items are addresses as fit into the bytes
pub addresses_counted : (entries : Entries) (items : List (Result ℕ Error)) → 0 < entries.width
    → RepresentsAddresses entries items → count_by is_ok items ≡ length entries.rest.bytes / entries.width
addresses_counted entries items positive are =
    let bounds = counted entries.width positive are in
    let count = count_by is_ok items in
    let cut = length entries.rest.bytes - count * entries.width in
    let whole : count * entries.width + cut ≡ length entries.rest.bytes = omega (arith, bounds.0) in
    subst (λ n. count ≡ n / entries.width) whole
    (sym (div-mul-add count entries.width cut (omega (arith, bounds.1, bounds.0))))
