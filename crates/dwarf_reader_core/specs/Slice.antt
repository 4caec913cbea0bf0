-- What contracts see of a borrowed slice.
use Rattle.std.specs.Prelude.{◌-◌, length}
use Rattle.std.specs.declared.cmp.PartialEq as equality
use Rattle.std.specs.declared.default.Default as default
use Rattle.std.specs.declared.fmt.Debug as debug
use Rattle.dwarf_base_core.specs.declared.endianity.Endianity as order
use Rattle.dwarf_reader_core.specs.declared.endian_slice.EndianSlice.{EndianSlice}
use Rattle.dwarf_reader_core.specs.Input.{Input}

-- the bytes that remain, the position of the first of them, and whether the highest byte of a number comes first
abbrev pub input_of : {E : Type 0} {o : order.Ghosts E} {d : debug.Ghosts E} {z : default.Ghosts E}
    {p : equality.Ghosts E} → EndianSlice E o d z p → Input
input_of {o = o} s =
    record { bytes = s.slice.now; position = s.end - length s.slice.now; is_big = o.is_big s.endian }
