-- The string that a reader reads after an offset is the section's string there, and a section has one result there.
use Rattle.dwarf_read_core.proofs.Common.{◌≡◌, ◌∙◌, ◌≤◌, ℕ, List, length, drop, sym, ap, subst, arith, length-take-le, first, after, Result, Ok, Err, refl, ◌⊎◌, inl, inr, Bool, IfOk, IfErr, Error, followed_by, HasNoByte, CloneRanOutOfMemory, Input, Takes, TakesString, HasOne, UnlessCloneRanOut, Stays}
use Rattle.dwarf_reader_core.specs.Input.{IsFirst}
use Rattle.dwarf_reader_core.proofs.public.Readings.{skip-is, string-is}
use Rattle.dwarf_read_core.proofs.lookups.Results.{read_at-exactly_one, read_at-more, read_at-reached, read_at-stays}
use Rattle.dwarf_read_core.specs.Strings.{StringAt}

-- what a reader returns for a string after an offset is the section's result there
pub string-read : {X : Type 0} (section : Input) (offset : ℕ) (rest new : Input) (view : X → Input)
    (clone_is_free : Bool) (r : Result X Error) → Takes offset section rest
    → IfOk r (λ x. TakesString rest (view x) new)
    → IfErr r (λ e. HasNoByte 0 rest e ⊎ CloneRanOutOfMemory clone_is_free e)
    → UnlessCloneRanOut (StringAt section offset) view clone_is_free r
string-read section offset rest new view clone_is_free (Ok x) takes given h =
    record { ok = read_at-reached rest new (Ok (view x)) takes given; err = tt }
string-read section offset rest new view clone_is_free (Err e) takes given (inl lacks) =
    record { ok = tt; err = inl (read_at-reached rest rest (Err e) takes (lacks, refl)) }
string-read section offset rest new view clone_is_free (Err e) takes given (inr want) =
    record { ok = tt; err = inr want }

-- a string is the first bytes after its offset, up to the first zero byte
pub string-first : (section : Input) (offset : ℕ) (string : Input) → StringAt section offset (Ok string)
    → (offset ≤ length section.bytes) × (string ≡ first (length string.bytes) (after offset section))
    × IsFirst 0 (drop offset section.bytes) (length string.bytes)
string-first section offset string has =
    let (_, rest, takes, t) = has.read in
    let within : t.len ≤ length rest.bytes = omega (arith, t.ends.within) in
    let long : t.len ≡ length string.bytes =
    sym (ap (λ (i : Input). length i.bytes) t.content ∙ length-take-le t.len rest.bytes within) in (
      takes.enough,
      t.content ∙ (λ i. first (long i) (takes.left i)),
      subst (IsFirst 0 (drop offset section.bytes)) long
          (subst (λ (i : Input). IsFirst 0 i.bytes t.len) takes.left t.ends),
    )

-- a section has exactly one string or error at an offset
pub strings_exactly_one : (section : Input) (offset : ℕ) → HasOne (StringAt section offset)
strings_exactly_one section offset = read_at-exactly_one (skip-is offset).decided string-is.decided section

-- a string that a section has at an offset is still there when more bytes follow
pub string_more : (section : Input) (offset : ℕ) (found : Input) (more : List ℕ) → StringAt section offset (Ok found)
    → StringAt (followed_by section more) offset (Ok found)
string_more section offset found more is =
    read_at-more (skip-is offset).decided string-is.decided section (Ok found) more is tt

-- what a lookup of a string returned, except `UnexpectedEof` and `OutOfMemory`, stays when bytes are appended
pub string-stays : {X : Type 0} {section : Input} {offset : ℕ} {view : X → Input} {clone_is_free : Bool}
    {r : Result X Error} → UnlessCloneRanOut (StringAt section offset) view clone_is_free r
    → Stays (λ input. StringAt input offset) view clone_is_free section r
string-stays {offset = offset} = read_at-stays (skip-is offset).decided string-is.decided
