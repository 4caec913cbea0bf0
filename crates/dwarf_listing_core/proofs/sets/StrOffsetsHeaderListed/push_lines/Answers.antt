use Rattle.dwarf_listing_core.proofs.Common.{true, seen_by, offset_listing}
use Rattle.dwarf_listing_core.proofs.ItemLines.{set_appended}
use Rattle.dwarf_listing_core.proofs.sets.StrOffsetsHeaderListed.push_lines.Goals as goal

pub returns : goal.returns
returns g c =
    let offset = c.into_u64-offset.ensures.number in
    let length = c.into_u64-length.ensures.number in
    set_appended (offset_listing g.R.Offset.ReaderOffset.GREATEST) (seen_by g.R.Reader.view c.args.self.now)
    (λ offset. g.R.Offset.ReaderOffset.value offset.0) true _ _ c.push_items.new.text.items c.push_items.result
    (rw (offset, c.offset.ensures, length, c.length.ensures, c.word_size-bits.ensures, c.format.ensures)
    at c.in_ok-push_offset_header.ensures) (rw c.in_ok-entries.ensures.ok at c.push_items.ensures)
