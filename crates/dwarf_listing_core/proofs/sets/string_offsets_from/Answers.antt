use Rattle.dwarf_listing_core.proofs.Common.{◌-◌, ◌^◌, offset_listing}
use Rattle.dwarf_listing_core.proofs.ItemLines.{text_of_sets}
use Rattle.dwarf_listing_core.proofs.sets.string_offsets_from.Goals as goal

pub returns : goal.returns
returns g c =
    let same = rw c.from.ensures at c.in_ok-headers.ensures.ok in
    text_of_sets g.R.Reader.view (offset_listing (2 ^ 64 - 1)) g.R.Reader.clone_is_free _ same c.text_of.result
    c.text_of.ensures
