-- Bytes have exactly one initial length, or exactly one error in place of it, and either stays with more bytes appended.
use Rattle.dwarf_reader_core.proofs.Common.{ℕ, List, length, Result, Ok, Err, refl, sym, arith, Error, eof_here, Input, after, Takes, TakesNumber, HasOne}
use Rattle.dwarf_base_core.specs.declared.common.Format.{Format}
use Rattle.dwarf_base_core.specs.declared.common.Format.TheVariants.{Dwarf32, Dwarf64}
use Rattle.dwarf_base_core.specs.declared.error.Error.TheVariants.{UnknownReservedLength, UnsupportedOffset}
use Rattle.dwarf_base_core.specs.Format.{initial_length_size}
use Rattle.dwarf_reader_core.specs.Appended.{followed_by, IsNotEof}
use Rattle.dwarf_reader_core.specs.InitialLength.{HasLength, in_four_bytes, in_eight_bytes, HasNoLength, four_cut, reserved, eight_cut, too_great, LengthRead}
use Rattle.dwarf_reader_core.proofs.public.Consuming.{front, front-cut, front-taken, number_more, takes-both}
use Rattle.dwarf_reader_core.proofs.public.Once.{one_by_equality, one_unless}

-- a result for the initial length, and what remains
abbrev Outcome : Type 0
Outcome = Result (Format × ℕ) Error × Input

-- ---- exactly one result

-- after 0xffffffff every result is that of the eight bytes that follow
long_only : (greatest : ℕ) (old : Input) → TakesNumber 4 old 0xffff_ffff (after 4 old)
    → HasOne (LengthRead greatest old)
long_only greatest old four =
    let mid = after 4 old in
    one_unless (length mid.bytes) 8 (Err (eof_here mid), mid) (λ short. eight_cut four (front-cut 8 mid short))
    (λ short other is. grind arith) (λ more.
    one_unless greatest (front 8 mid) (Err UnsupportedOffset, after 8 mid)
    (λ over. too_great four (front-taken 8 mid more) over) (λ over other is. grind arith)
    (λ fits. (
      (Ok (Dwarf64, front 8 mid), after 8 mid),
      in_eight_bytes four (front-taken 8 mid more) fits,
      λ other is. grind arith,
    )))

-- every input has exactly one result for an initial length
pub lengths_exactly_one : (greatest : ℕ) (old : Input) → HasOne (LengthRead greatest old)
lengths_exactly_one greatest old =
    let n = front 4 old in
    let mid = after 4 old in
    one_unless (length old.bytes) 4 (Err (eof_here old), old) (λ short. four_cut (front-cut 4 old short))
    (λ short other is. grind arith) (λ enough.
    one_unless n 0xffff_fff0 (Ok (Dwarf32, n), mid) (λ low. in_four_bytes (front-taken 4 old enough) low)
    (λ low other is. grind arith) (λ high.
    one_by_equality n 0xffff_ffff
    (λ same. long_only greatest old (record { enough = enough; encoded = sym same; left = refl }))
    (λ different. (
      (Err (UnknownReservedLength n), mid),
      reserved (front-taken 4 old enough) high different,
      λ other is. grind arith,
    ))))

-- ---- what an initial length consumes, and more bytes after it

-- an initial length has four or twelve bytes, by its format
pub length_taken : {greatest : ℕ} {old new : Input} {format : Format} {n : ℕ} → HasLength greatest old format n new
    → Takes (initial_length_size format) old new
length_taken (in_four_bytes takes low) = record { enough = takes.enough; left = takes.left }
length_taken (in_eight_bytes four eight fits) =
    takes-both (record { enough = four.enough; left = four.left }) (record { enough = eight.enough; left = eight.left })

-- an initial length stays with more bytes appended
pub length_more : {greatest : ℕ} {old new : Input} {format : Format} {n : ℕ} (more : List ℕ)
    → HasLength greatest old format n new → HasLength greatest (followed_by old more) format n (followed_by new more)
length_more more (in_four_bytes takes low) = in_four_bytes (number_more more takes) low
length_more more (in_eight_bytes four eight fits) =
    in_eight_bytes (number_more more four) (number_more more eight) fits

-- so does an error in place of one, unless bytes are missing
pub no_length-more : {greatest : ℕ} {old new : Input} {e : Error} (more : List ℕ) → HasNoLength greatest old e new
    → IsNotEof e → HasNoLength greatest (followed_by old more) e (followed_by new more)
no_length-more {old = old} more (four_cut short) settled = absurd (settled old.position short.fault)
no_length-more more (reserved takes high other) settled = reserved (number_more more takes) high other
no_length-more more (eight_cut {mid = mid} four short) settled = absurd (settled mid.position short.fault)
no_length-more more (too_great four eight over) settled =
    too_great (number_more more four) (number_more more eight) over
