-- Bytes that are read as an error, in place of a number, begin with no number.
use Rattle.dwarf_read_c.proofs.Common.{◌≡◌, ℕ, List, length, arith, inl, inr, false, Error, eof, Input, Kind, ReadsNoLeb128, DwarfFault, Rejects, error_number, fault_of, HasNoLeb128, cut, bad, section_of}
use Rattle.dwarf_read_c.proofs.KnownErrors.{known_number}

-- the error of reading a number is the one that the bytes have in its place
number_absent : {k : Kind} {bytes : List ℕ} {e : Error} {new : Input} → ReadsNoLeb128 k (section_of bytes false) e new
    → HasNoLeb128 k bytes e
number_absent {bytes = bytes} {e} (inl ends) =
    let same : e ≡ eof (length bytes) = grind arith in rw same (cut ends.cut)
number_absent (inr no_number) = rw no_number.fault (bad no_number.bad)

-- a call that writes the error of reading a number rejects the bytes
pub number_rejected : {k : Kind} {bytes : List ℕ} {e : Error} {new : Input} {status : ℕ} {fault : DwarfFault}
    → ReadsNoLeb128 k (section_of bytes false) e new → status ≡ error_number e → fault ≡ fault_of e
    → Rejects (HasNoLeb128 k bytes) status fault
number_rejected {e = e} rejects numbered reported =
    let absent = number_absent rejects in
    record { error = e; holds = (absent, known_number absent); numbered = numbered; reported = reported }
