-- A section's name determines the section.
use Rattle.std.proofs.Common.{arith, ◌≡◌, ℕ, ◌==◌, List, ap, sym, ◌∙◌, if◌then◌else◌, codes}
use lib.Pointwise.{pointwise}
use Rattle.dwarf_base_core.specs.declared.common.SectionId.{SectionId}
use Rattle.dwarf_base_core.specs.declared.common.SectionId.TheVariants.{DebugAbbrev, DebugAddr, DebugAranges, DebugCuIndex, DebugFrame, EhFrame, EhFrameHdr, DebugGnuPubNames, DebugGnuPubTypes, DebugInfo, DebugLine, DebugLineStr, DebugLoc, DebugLocLists, DebugMacinfo, DebugMacro, DebugNames, DebugPubNames, DebugPubTypes, DebugRanges, DebugRngLists, DebugStr, DebugStrOffsets, DebugTuIndex, DebugTypes}
use Rattle.dwarf_base_core.specs.Section.{section_names, NamesAreDistinct}

-- the section that a name belongs to
abbrev section_named : List ℕ → SectionId
section_named name =
    if pointwise ◌==◌ name (codes ".debug_abbrev") then DebugAbbrev else
    if pointwise ◌==◌ name (codes ".debug_addr") then DebugAddr else
    if pointwise ◌==◌ name (codes ".debug_aranges") then DebugAranges else
    if pointwise ◌==◌ name (codes ".debug_cu_index") then DebugCuIndex else
    if pointwise ◌==◌ name (codes ".debug_frame") then DebugFrame else
    if pointwise ◌==◌ name (codes ".eh_frame") then EhFrame else
    if pointwise ◌==◌ name (codes ".eh_frame_hdr") then EhFrameHdr else
    if pointwise ◌==◌ name (codes ".debug_gnu_pubnames") then DebugGnuPubNames else
    if pointwise ◌==◌ name (codes ".debug_gnu_pubtypes") then DebugGnuPubTypes else
    if pointwise ◌==◌ name (codes ".debug_info") then DebugInfo else
    if pointwise ◌==◌ name (codes ".debug_line") then DebugLine else
    if pointwise ◌==◌ name (codes ".debug_line_str") then DebugLineStr else
    if pointwise ◌==◌ name (codes ".debug_loc") then DebugLoc else
    if pointwise ◌==◌ name (codes ".debug_loclists") then DebugLocLists else
    if pointwise ◌==◌ name (codes ".debug_macinfo") then DebugMacinfo else
    if pointwise ◌==◌ name (codes ".debug_macro") then DebugMacro else
    if pointwise ◌==◌ name (codes ".debug_names") then DebugNames else
    if pointwise ◌==◌ name (codes ".debug_pubnames") then DebugPubNames else
    if pointwise ◌==◌ name (codes ".debug_pubtypes") then DebugPubTypes else
    if pointwise ◌==◌ name (codes ".debug_ranges") then DebugRanges else
    if pointwise ◌==◌ name (codes ".debug_rnglists") then DebugRngLists else
    if pointwise ◌==◌ name (codes ".debug_str") then DebugStr else
    if pointwise ◌==◌ name (codes ".debug_str_offsets") then DebugStrOffsets else
    if pointwise ◌==◌ name (codes ".debug_tu_index") then DebugTuIndex else
    DebugTypes

-- the section that a section's name belongs to is that section
section_named-name : (id : SectionId) → section_named (section_names id).name ≡ id
section_named-name id = grind arith

-- no two sections have one name
pub names_are_distinct : NamesAreDistinct
names_are_distinct x y same = sym (section_named-name x) ∙ ap section_named same ∙ section_named-name y
