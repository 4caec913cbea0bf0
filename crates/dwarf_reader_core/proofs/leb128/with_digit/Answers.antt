use Rattle.dwarf_reader_core.proofs.Common.{◌≡◌, ◌<◌, ◌%◌, ◌^◌, ap, ◌∙◌, arith, ◌*◌, ◌+◌}
use Rattle.dwarf_reader_core.proofs.leb.Bits.{or_digit}
use Rattle.dwarf_reader_core.proofs.leb128.with_digit.Goals as goal

pub returns : goal.returns
returns c =
    let digit : c.from.result ≡ c.args.byte % 128 = omega arith in
    let small : c.from.result < 2 ^ 7 = omega arith in
    or_digit c.args.value c.from.result c.args.shift 7 64 c.requires.below small (omega arith)
    ∙ ap (λ d. c.args.value + d * 2 ^ c.args.shift) digit
