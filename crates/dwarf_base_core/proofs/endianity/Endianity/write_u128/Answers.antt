use Rattle.std.proofs.Common.{arith, ap, ◌∙◌, sym, length, length-take-le}
use Rattle.dwarf_base_core.proofs.Numbers.{big_number-written, little_number-written, length-bytes_high_first, length-bytes_low_first}
use Rattle.dwarf_base_core.proofs.endianity.Endianity.write_u128.Goals as goal

pub copy_from_slice-requires : goal.copy_from_slice-requires
copy_from_slice-requires g c =
    length-take-le 16 c.args.buf.now c.requires
    ∙ sym (ap length c.to_be_bytes.ensures ∙ length-bytes_high_first 16 c.args.n)

pub copy_from_slice-requires-else-is_big_endian : goal.copy_from_slice-requires-else-is_big_endian
copy_from_slice-requires-else-is_big_endian g c =
    length-take-le 16 c.args.buf.now c.requires
    ∙ sym (ap length c.to_le_bytes.ensures ∙ length-bytes_low_first 0 16 c.args.n)

pub returns-then-is_big_endian-clause-number : goal.returns-then-is_big_endian-clause-number
returns-then-is_big_endian-clause-number g c =
    rw (sym c.is_big_endian.ensures ∙ c.if-is_big_endian.true)
    (big_number-written 16 c.args.n _ _ (omega (arith, c.ranges.n.fits))
    (c.copy_from_slice.ensures.after ∙ c.to_be_bytes.ensures))

pub returns-else-is_big_endian-clause-number : goal.returns-else-is_big_endian-clause-number
returns-else-is_big_endian-clause-number g c =
    rw (sym c.is_big_endian.ensures ∙ c.if-is_big_endian.false)
    (little_number-written 16 c.args.n _ _ (omega (arith, c.ranges.n.fits))
    (c.copy_from_slice-else-is_big_endian.ensures.after ∙ c.to_le_bytes.ensures))
