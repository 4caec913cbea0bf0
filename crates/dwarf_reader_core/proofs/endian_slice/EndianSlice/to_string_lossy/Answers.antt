use Rattle.dwarf_reader_core.proofs.Common.{◌∙◌}
use Rattle.bstr.proofs.lemmas.LossyLemmas.{lossy_chars-utf8_lossy}
use Rattle.dwarf_reader_core.proofs.endian_slice.EndianSlice.to_string_lossy.Goals as goal

pub returns-in-Ok-clause-ok : goal.returns-in-Ok-clause-ok
returns-in-Ok-clause-ok g c = c.in-Ok.ensures.text ∙ lossy_chars-utf8_lossy _
