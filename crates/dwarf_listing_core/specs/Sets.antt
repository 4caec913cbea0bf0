-- The lines of sets of addresses and of string offsets.
use Rattle.std.specs.Prelude.{◌≡◌, ℕ, ◌*◌, ◌-◌, ◌^◌, List, ◌++◌, Result, Ok, codes, decimal}
use Rattle.dwarf_read_core.specs.declared.Error.{Error}
use Rattle.dwarf_read_core.specs.declared.RunTimeEndian.{RunTimeEndian}
use Rattle.dwarf_read_core.specs.Endian.{is_big_at_run_time}
use Rattle.dwarf_read_core.specs.Entries.{Entries, RepresentsAddresses, RepresentsStringOffsets}
use Rattle.dwarf_read_core.specs.ErrorText.{hexadecimal}
use Rattle.dwarf_read_core.specs.Format.{word_size}
use Rattle.dwarf_read_core.specs.Headers.{AddressHeaderRead, Header, StringOffsetsHeaderRead}
use Rattle.dwarf_read_core.specs.Contributions.{Remaining, Contribution as Set, RepresentsContributions, addresses_of, string_offsets_of}
use Rattle.dwarf_listing_core.specs.Items.{Joins, ListsItemsOf}
use Rattle.dwarf_listing_core.specs.Lines.{line}

-- before the header of a set: its offset
abbrev pub set_title : ℕ → List ℕ
set_title offset = codes "set " ++ decimal offset ++ codes ": "

-- how many bytes follow the length of a set, and the bits of its format
abbrev pub set_text : ℕ → ℕ → List ℕ
set_text unit_length bits =
    codes "length " ++ decimal unit_length ++ codes ", " ++ decimal bits ++ codes "-bit"

-- the line of a set of addresses, with the number of bytes of an address
abbrev pub address_header_line : ℕ → ℕ → ℕ → ℕ → List ℕ
address_header_line offset unit_length bits size =
    line (set_title offset ++ set_text unit_length bits ++ codes ", address size " ++ decimal size)

-- the line of a set of string offsets
abbrev pub offset_header_line : ℕ → ℕ → ℕ → List ℕ
offset_header_line offset unit_length bits = line (set_title offset ++ set_text unit_length bits)

-- the line of an address
abbrev pub address_line : ℕ → List ℕ
address_line address = line (codes "  0x" ++ hexadecimal address)

-- the line of a string's offset
abbrev pub offset_line : ℕ → List ℕ
offset_line offset = line (codes "  " ++ decimal offset)

-- how a section of sets is listed: what a header is, the entries of a set and their items, and the lines of a header
-- and of an entry
pub record SetListing (H : Type 0) : Type 1 where
  pub header : Header H
  pub entries : Set H → Entries
  pub represents : Entries → List (Result ℕ Error) → Type 0
  pub header_line : Set H → List ℕ
  pub entry_line : ℕ → List ℕ

-- sets of addresses
abbrev pub address_listing : SetListing ℕ
address_listing =
    record {
      header = AddressHeaderRead;
      entries = addresses_of;
      represents = RepresentsAddresses;
      header_line = λ s. address_header_line s.offset s.unit_length (word_size s.format * 8) s.header;
      entry_line = λ address. address_line address;
    }

-- sets of string offsets, up to the greatest that is read
abbrev pub offset_listing : ℕ → SetListing (Unit {0})
offset_listing greatest =
    record {
      header = StringOffsetsHeaderRead;
      entries = string_offsets_of;
      represents = RepresentsStringOffsets greatest;
      header_line = λ s. offset_header_line s.offset s.unit_length (word_size s.format * 8);
      entry_line = λ offset. offset_line offset;
    }

-- the line of a number
abbrev pub ListsLine : (ℕ → List ℕ) → ℕ → Result (List ℕ) Error → Type 0
ListsLine line_of number listed = listed ≡ Ok (line_of number)

-- the line of a set and those of its entries, or the first error of its entries
abbrev pub ListsSet : {H : Type 0} → SetListing H → Set H → Result (List ℕ) Error → Type 0
ListsSet listing s listed =
    Joins (Ok (listing.header_line s))
    (ListsItemsOf listing.represents (ListsLine listing.entry_line) (listing.entries s)) listed

-- the sets of a whole section: the first one is at its start
abbrev pub sets_section : RunTimeEndian → List ℕ → Remaining
sets_section endian section =
    record { offset = 0; rest = record { bytes = section; position = 0; is_big = is_big_at_run_time endian } }

-- the items of the sets that remain, whose offsets have 64 bits
abbrev pub HasSets : {H : Type 0} → SetListing H → Remaining → List (Result (Set H) Error) → Type 0
HasSets listing sets items = RepresentsContributions listing.header (2 ^ 64 - 1) sets items

-- the lines of all sets of a section, or its first error: that of a header, or that of a set's entries before the next
-- header
abbrev pub ListsSection : {H : Type 0} → SetListing H → Remaining → Result (List ℕ) Error → Type 0
ListsSection listing sets listed = ListsItemsOf (HasSets listing) (ListsSet listing) sets listed

-- the lines of a section of addresses in a byte order
abbrev pub ListsAddresses : RunTimeEndian → List ℕ → Result (List ℕ) Error → Type 0
ListsAddresses endian section listed = ListsSection address_listing (sets_section endian section) listed

-- the lines of a section of string offsets
abbrev pub ListsStringOffsets : RunTimeEndian → List ℕ → Result (List ℕ) Error → Type 0
ListsStringOffsets endian section listed =
    ListsSection (offset_listing (2 ^ 64 - 1)) (sets_section endian section) listed
