use Rattle.dwarf_reader_core.proofs.public.Headers.{address_header, address_header-sizes, string_offsets_header, string_offsets_header-sizes}
use Rattle.dwarf_read_core.proofs.contributions.SetBytes.{eight_bytes, eight_bytes_each}
use Rattle.dwarf_read_core.proofs.laws.sets_have_eight_bytes.Goals as goal

pub returns : goal.returns
returns g c = record {
  address = λ greatest. eight_bytes address_header greatest (address_header-sizes greatest);
  string_offsets = λ greatest. eight_bytes string_offsets_header greatest (string_offsets_header-sizes greatest);
  address_list = λ greatest. eight_bytes_each address_header greatest (address_header-sizes greatest);
  string_offsets_list = λ greatest.
      eight_bytes_each string_offsets_header greatest (string_offsets_header-sizes greatest);
}
