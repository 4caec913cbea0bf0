use Rattle.dwarf_reader_core.proofs.Common.{◌≡◌, ◌≤◌, ◌<◌, ◌^◌, arith, rules, ap, ◌∙◌, to_z, w64, FitsSigned, pos, ◌-ℤ◌, ints, to_z-of_z, to_z_pos}
use Rattle.std.proofs.Math.Pow.{pow_mono}
use lib.Bits.{or_zero_r}
use Rattle.dwarf_reader_core.proofs.leb.Bits.{or_ones, to_z_low}
use Rattle.dwarf_reader_core.proofs.leb128.with_sign.Goals as goal
use Rattle.dwarf_reader_core.proofs.leb128.with_sign.Goals.{then-is_negative, else-is_negative}

pub returns : goal.returns
returns c =
    let bits : c.args.bits ≤ 63 = omega arith in
    let low : 2 ^ c.args.bits ≤ 2 ^ 63 = pow_mono bits in
    let fits : FitsSigned w64 c.cast_signed.result = search rules in
    rw to_z-of_z (c.cast_signed.ensures ∙ elim c.if-is_negative.branch [
      | then-is_negative w ↦
          rw (w.sign-is, w.if-is_negative.true)
          (ap (to_z w64) (or_ones c.args.value c.args.bits 64 c.requires.below (omega arith))
          ∙ to_z_low c.args.value (2 ^ c.args.bits) c.requires.below low)
      | else-is_negative w ↦
          let small : c.args.value < 2 ^ 63 = omega (arith, c.requires.below) in
          let whole : pos c.args.value ≡ pos c.args.value -ℤ pos 0 = omega (arith, ints) in
          rw (w.sign-is, w.if-is_negative.false)
          (ap (to_z w64) (or_zero_r c.args.value) ∙ to_z_pos w64 c.args.value small ∙ whole)
    ])
