-- Names that the proofs of this crate cite from elsewhere, passed on from one place.
pub use Rattle.std.proofs.Common.{◌≡◌, List, ℕ, Result, Ok, Err, refl, ap, sym, ◌∙◌, ◌≢◌, zero, suc, ◌+◌, ◌-◌, ◌<◌}
pub use Rattle.std.proofs.Common.{◌≤◌, ◌/◌, ◌%◌, drop, Bool, true, false, [], ◌∷◌, ◌++◌, length, arith, append_assoc}
pub use Rattle.std.proofs.Common.{get_or, ℤ, neg_ℤ, Option, Some, None, rules, All, option_map, IsUtf8, inl}
pub use Rattle.std.proofs.Common.{inr, append-nil, take, map, length-take, ◌^◌, IsTrue, string_bytes}
pub use Rattle.std.proofs.Common.{flat_map, length-set}
pub use Rattle.dwarf_listing_core.specs.Sets.{SetListing, ListsLine, ListsSet, address_listing, offset_listing}
pub use Rattle.dwarf_listing_core.specs.Sets.{HasSets, ListsSection, sets_section}
pub use Rattle.dwarf_read_core.specs.declared.Error.{Error}
pub use Rattle.std.proofs.lemmas.List.{drop-set, take_more, map-append, length-map, length-drop}
pub use Rattle.std.proofs.lemmas.List.{drop-take, drop-append-le, take_more_set}
pub use Rattle.dwarf_listing_core.specs.Items.{Joins, in_front, ListsItemsOf, ListsRun, nothing}
pub use Rattle.dwarf_listing_core.specs.Items.{bad_item, bad_text, item, ListsItems}
pub use Rattle.dwarf_read_core.specs.Contributions.{Contribution as Set, Remaining, addresses_of, string_offsets_of, seen_by}
pub use Rattle.dwarf_listing_core.specs.Lines.{hex_byte, hex_text, line, string_line}
pub use Rattle.std.proofs.lemmas.Result.{err_from_is_err_and}
pub use Rattle.dwarf_read_core.specs.Once.{HasOne}
pub use Rattle.std.proofs.lemmas.Grind.{common_steps}
pub use Rattle.dwarf_listing_core.specs.Tables.{table_text, attribute_line, declaration_lines}
pub use Rattle.dwarf_listing_core.specs.Listing.{ListsBy}
pub use Rattle.std.specs.Fmt.{digit_glyph, digits_onto}
pub use Rattle.std.proofs.lemmas.Bool.Decides.{nat_tests}
pub use Rattle.dwarf_listing_core.specs.Number.{decimal_below, signed_of, unsigned_of, without_minus}
pub use Rattle.dwarf_read_core.specs.declared.Error.TheVariants.{OutOfMemory}
pub use Rattle.std.specs.List.{join_with_byte}
pub use Rattle.dwarf_read_core.specs.Input.{Input, section_of}
pub use Rattle.dwarf_listing_core.specs.Command.{command_of}
pub use Rattle.dwarf_read_core.specs.Leb128.{Kind, Number, unsigned64, signed64}
pub use Rattle.dwarf_listing_core.specs.Text.{IsTextOf, Lists, ListsNumber}
pub use Rattle.dwarf_listing_core.specs.declared.command.Command.{Command}
pub use Rattle.std.specs.Io.KnownBytes.{Consumes, Appends}
