use Rattle.dwarf_reader_core.proofs.Common.{arith, refl}
use Rattle.dwarf_base_core.specs.declared.error.Error.TheVariants.{BadUtf8}
use Rattle.dwarf_reader_core.proofs.public.Results.{replaced-err}
use Rattle.dwarf_reader_core.proofs.endian_slice.EndianSlice.to_string.Goals as goal

pub returns-clause-err : goal.returns-clause-err
returns-clause-err g c =
    replaced-err _ BadUtf8 c.from_utf8.result c.map_err.result c.map_err.ensures.cases (λ e made is. grind arith)
    (λ failed. refl)
