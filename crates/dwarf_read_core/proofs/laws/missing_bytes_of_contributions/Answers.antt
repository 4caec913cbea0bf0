use Rattle.dwarf_read_core.proofs.contributions.MissingBytes.{address_is_cut, contribution_is_cut, contribution_past_end, string_offset_is_cut}
use Rattle.dwarf_read_core.proofs.laws.missing_bytes_of_contributions.Goals as goal

pub returns : goal.returns
returns g c = record {
  address = address_is_cut;
  string_offset = string_offset_is_cut;
  outside = contribution_past_end g.H.HeaderFields.header;
  cut = contribution_is_cut g.H.HeaderFields.header;
}
