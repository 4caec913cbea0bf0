use Rattle.dwarf_listing_core.proofs.Common.{true, seen_by, address_listing}
use Rattle.dwarf_listing_core.proofs.ItemLines.{set_appended}
use Rattle.dwarf_listing_core.proofs.sets.AddrHeaderListed.push_lines.Goals as goal

pub returns : goal.returns
returns g c =
    let offset = c.into_u64-offset.ensures.number in
    let length = c.into_u64-length.ensures.number in
    set_appended address_listing (seen_by g.R.Reader.view c.args.self.now)
    (λ address. address) true _ _ c.push_items.new.text.items c.push_items.result
    (rw (offset, c.offset.ensures, length, c.length.ensures, c.word_size.ensures, c.encoding-encoding.ensures.fields)
    at c.in_ok-push_address_header.ensures) (rw c.in_ok-entries.ensures.ok at c.push_items.ensures)
