use Rattle.std.specs.Prelude.{IfErr, IfOk, OnOk}
use Rattle.dwarf_reader_core.proofs.Common.{IsTooShort, IsTrue, List, Takes, take, unsigned64, ℕ, ◌<◌, ◌≡◌, ◌≤◌, ◌⊎◌, Err, Error, Input, Ok, Result, TakesNumber}
use Rattle.dwarf_reader_core.specs.Faults.{ReadsNoOffset, is_number_size}
use Rattle.dwarf_reader_core.specs.Leb128.{IsOver, ReadsNoLeb128, ReadsLeb128}
use Rattle.dwarf_reader_core.specs.Readings.{BoundedRead, BytesRead, EncodingRead, Leb128Read, OffsetRead, Reading, SignedRead}
use Rattle.dwarf_reader_core.proofs.laws.promises_are_read.Goals as goal

-- what is promised of a value and of an error is read
either-read : {A : Type 0} (At : Reading A) (old new : Input) (result : Result A Error)
    → IfOk result (λ x. At old (Ok x, new)) → IfErr result (λ e. At old (Err e, new)) → At old (result, new)
either-read At old new (Ok x) ok err = ok
either-read At old new (Err e) ok err = err

-- so are bytes
bytes-read : (n : ℕ) (old new : Input) (result : Result (List ℕ) Error)
    → IfOk result (λ bytes. bytes ≡ take n old.bytes) → OnOk result (Takes n old new)
    → IfErr result (λ e. IsTooShort n old e new) → BytesRead n old (result, new)
bytes-read n old new (Ok bytes) filled ok err = (filled, ok)
bytes-read n old new (Err e) filled ok err = err

-- a number below a bound
bounded-read : (bound : ℕ) (old new : Input) (result : Result ℕ Error)
    → IfOk result (λ x. ReadsLeb128 unsigned64 old x new) → IfOk result (λ x. x < bound)
    → IfErr result (λ e. ReadsNoLeb128 unsigned64 old e new ⊎ IsOver bound old e new)
    → BoundedRead bound old (result, new)
bounded-read bound old new (Ok x) ok below err = (ok, below)
bounded-read bound old new (Err e) ok below err = err

-- and an offset
offset-read : (greatest size : ℕ) (old new : Input) (result : Result ℕ Error)
    → IfOk result (λ x. TakesNumber size old x new × IsTrue (is_number_size size)) → IfOk result (λ x. x ≤ greatest)
    → IfErr result (λ e. ReadsNoOffset greatest size old e new) → OffsetRead greatest size old (result, new)
offset-read greatest size old new (Ok x) ok in_range err = (ok.0, ok.1, in_range)
offset-read greatest size old new (Err e) ok in_range err = err

pub returns : goal.returns
returns c = record {
  slice = bytes-read;
  signed_number = λ n. either-read (SignedRead n);
  leb128 = λ k. either-read (Leb128Read k);
  bounded_leb128 = bounded-read;
  skipped_leb128 = either-read EncodingRead;
  sized_offset = offset-read;
}
