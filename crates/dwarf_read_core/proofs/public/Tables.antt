-- A section has exactly one table or error at an offset, where a table ends, and how a table is kept by places.
pub use Rattle.dwarf_read_core.proofs.tables.ExactlyOneAnswer.{answer_exactly_one}
pub use Rattle.dwarf_read_core.proofs.tables.AppendedBytes.{answer_more}
pub use Rattle.dwarf_read_core.proofs.tables.TableEnds.{end_exactly_one, end_more, end_after}
pub use Rattle.dwarf_read_core.proofs.tables.CodesOnce.{distinct_push, table_push}
pub use Rattle.dwarf_read_core.proofs.tables.OthersByCode.{added_by_place, entries_sorted, has_by_place, places_put, values_with_places}
pub use Rattle.dwarf_read_core.proofs.tables.TableBounds.{count_is, len_is}
pub use Rattle.dwarf_read_core.proofs.tables.VectorAndMap.{entries_kept, get_is_lookup, inserted}
