-- Numbers at the front of bytes.
use Rattle.std.specs.Prelude.{◌≡◌, ℕ, List, length}
use Rattle.dwarf_read_core.specs.declared.Error.{Error}
use Rattle.dwarf_read_core.specs.Faults.{eof}
use Rattle.dwarf_read_core.specs.Leb128.{Kind, Number, IsTruncated, IsMalformed, overflow_error}
use Rattle.dwarf_read_core.specs.Shortest.{IsShortest}
use Rattle.dwarf_read_c.specs.Room.{Puts}

-- the error of bytes that begin with no number: they end before it does, or they are bad
pub data HasNoLeb128 (k : Kind) (bytes : List ℕ) : Error → Type 0 where
  cut : IsTruncated k bytes → HasNoLeb128 k bytes (eof (length bytes))
  bad : IsMalformed k bytes → HasNoLeb128 k bytes (overflow_error k)

-- the shortest bytes of a number are written to the front, and their count is written
pub record PutsShortest (k : Kind) (number : Number k) (old new : List ℕ) (len status : ℕ) : Type 0 where
  pub bytes : List ℕ
  pub shortest : IsShortest k number bytes
  pub put : Puts bytes old new status
  pub reported : len ≡ length bytes
