use Rattle.dwarf_listing_core.proofs.Common.{◌-◌, ◌^◌, false, string_line, section_of, address_listing, offset_listing, sets_section, table_text, addresses_of, string_offsets_of}
use Rattle.dwarf_listing_core.proofs.OneText.{one_text_by}
use Rattle.dwarf_listing_core.proofs.SetTexts.{address_size, one_section}
use Rattle.dwarf_read_core.proofs.public.Lookups.{strings_exactly_one}
use Rattle.dwarf_read_core.proofs.public.Entries.{word_size-positive}
use Rattle.dwarf_listing_core.proofs.laws.exactly_one_listing.Goals as goal

pub returns : goal.returns
returns c = record {
  table = λ section offset. one_text_by table_text _ (c.exactly_one_answer.ensures (section_of section false) offset);
  strict = λ section offset.
      one_text_by table_text _ (c.exactly_one_strict_answer.ensures.one (section_of section false) offset);
  string = λ section offset. one_text_by string_line _ (strings_exactly_one (section_of section false) offset);
  addresses = λ endian section. one_section address_listing (sets_section endian section)
      (λ old new s is. c.exactly_one_list_of_addresses.ensures.one (addresses_of s) (address_size old new s is))
      (c.exactly_one_list_of_contributions.ensures.one (2 ^ 64 - 1) (sets_section endian section));
  string_offsets = λ endian section. one_section (offset_listing (2 ^ 64 - 1)) (sets_section endian section)
      (λ old new s is. c.exactly_one_list_of_string_offsets.ensures.one (2 ^ 64 - 1) (string_offsets_of s)
      (word_size-positive s.format))
      (c.exactly_one_list_of_contributions-2.ensures.one (2 ^ 64 - 1) (sets_section endian section));
}
