-- What a reader reads at the place of a slot is the section's result there, and a section has one result there.
use Rattle.dwarf_read_core.proofs.Common.{◌≡◌, ℕ, ◌<◌, ◌≤◌, List, Bool, Result, Ok, Err, arith, inl, inr, OnOk, IfErr, IfOk, IsTrue, Error, UnsupportedOffset, IsTooShort, ReadsNoAddress, is_number_size, Input, Takes, TakesNumber, followed_by, IsNotEof, HasOne, UnlessCloneRanOut, Stays}
use Rattle.std.specs.Prelude.{⊤, nat_le}
use Rattle.dwarf_reader_core.specs.Readings.{IsDecided, Reads, Required}
use Rattle.dwarf_reader_core.proofs.public.Readings.{address-is, required-is, required-ok, skip-is, then-decided, word-is}
use Rattle.dwarf_read_core.proofs.lookups.Results.{read_at-exactly_one, read_at-more, read_at-reached, read_at-stays}
use Rattle.dwarf_read_core.specs.Words.{AddressAt, PlaceRead, Slot, WordAt, distance}

-- ---- going to the place

module _ (greatest : ℕ) (s : Slot) where
  -- if the distance is too great for an offset, that is the error after the base
  pub too_far_off : {section rest : Input} → Takes s.base section rest → greatest < distance s
      → PlaceRead greatest s section (Err UnsupportedOffset, rest)
  too_far_off {rest = rest} takes over = inr (tt, rest, takes, inl (grind arith))

  -- a distance that the code computed is skipped after the base
  pub place_read : {section rest : Input} {far : ℕ} (new : Input) (r : Result ⊤ Error) → Takes s.base section rest
      → far ≡ distance s → far ≤ greatest → OnOk r (Takes far rest new) → IfErr r (λ e. IsTooShort far rest e new)
      → Reads (PlaceRead greatest s) (λ _. tt) section r new
  place_read {rest = rest} new (Ok done) takes is counted further h =
      (tt, rest, takes, (tt, rest, required-ok UnsupportedOffset (grind arith), rw is at further))
  place_read {rest = rest} new (Err e) takes is counted further short =
      inr (tt, rest, takes, inr (tt, rest, required-ok UnsupportedOffset (grind arith), rw is at short))

  -- a test of the distance that is passed holds
  pub distance-counted : {old new : Input} → Required (nat_le (distance s) greatest) UnsupportedOffset old (Ok tt, new)
      → (distance s ≤ greatest) × (new ≡ old)
  distance-counted passed = grind arith

  -- the bytes before the place are those before the base and the distance
  pub place_parts : {section new : Input} → PlaceRead greatest s section (Ok tt, new)
      → (rest : Input) × Takes s.base section rest × (distance s ≤ greatest) × Takes (distance s) rest new
  place_parts is = grind (arith, is, distance-counted)

  -- the bytes of a section decide where a slot has its place
  place-decided : IsDecided (PlaceRead greatest s)
  place-decided =
      then-decided (skip-is s.base).decided (λ _.
      then-decided (required-is _ UnsupportedOffset (λ position same. grind arith)).decided (λ _.
      (skip-is (distance s)).decided))

-- ---- exactly one result, which stays when bytes are appended

module _ (greatest : ℕ) (section : Input) (s : Slot) where
  -- a slot has exactly one word or error
  pub words_exactly_one : HasOne (WordAt greatest section s)
  words_exactly_one = read_at-exactly_one (place-decided greatest s) (word-is greatest s.width).decided section

  -- appended bytes change neither a word nor its error, unless that is an `UnexpectedEof`
  pub word_more : (answer : Result ℕ Error) (more : List ℕ) → WordAt greatest section s answer
      → IfErr answer IsNotEof → WordAt greatest (followed_by section more) s answer
  word_more = read_at-more (place-decided greatest s) (word-is greatest s.width).decided section

  -- what a lookup of a word returned, except `UnexpectedEof` and `OutOfMemory`, stays when bytes are appended
  pub word-stays : {X : Type 0} {view : X → ℕ} {clone_is_free : Bool} {r : Result X Error}
      → UnlessCloneRanOut (WordAt greatest section s) view clone_is_free r
      → Stays (λ input. WordAt greatest input s) view clone_is_free section r
  word-stays = read_at-stays (place-decided greatest s) (word-is greatest s.width).decided

  -- a slot has exactly one address or error
  pub addresses_exactly_one : HasOne (AddressAt greatest section s)
  addresses_exactly_one = read_at-exactly_one (place-decided greatest s) (address-is s.width).decided section

  -- appended bytes change neither an address nor its error, unless that is an `UnexpectedEof`
  pub address_more : (answer : Result ℕ Error) (more : List ℕ) → AddressAt greatest section s answer
      → IfErr answer IsNotEof → AddressAt greatest (followed_by section more) s answer
  address_more = read_at-more (place-decided greatest s) (address-is s.width).decided section

  -- what a lookup of an address returned, except `UnexpectedEof` and `OutOfMemory`, stays when bytes are appended
  pub address-stays : {clone_is_free : Bool} {r : Result ℕ Error}
      → UnlessCloneRanOut (AddressAt greatest section s) (λ x. x) clone_is_free r
      → Stays (λ input. AddressAt greatest input s) (λ x. x) clone_is_free section r
  address-stays = read_at-stays (place-decided greatest s) (address-is s.width).decided

  -- ---- what a reader returns

  -- what a reader returns for an address at the place is the section's result
  pub address-read : (rest new : Input) (clone_is_free : Bool) (r : Result ℕ Error)
      → PlaceRead greatest s section (Ok tt, rest)
      → IfOk r (λ x. TakesNumber s.width rest x new × IsTrue (is_number_size s.width))
      → IfErr r (λ e. ReadsNoAddress s.width rest e new)
      → UnlessCloneRanOut (AddressAt greatest section s) (λ x. x) clone_is_free r
  address-read rest new clone_is_free (Ok x) place taken h =
      record { ok = read_at-reached rest new (Ok x) place taken; err = tt }
  address-read rest new clone_is_free (Err e) place given none =
      record { ok = tt; err = inl (read_at-reached rest new (Err e) place none) }
