-- The names of the sections that hold DWARF.
use Rattle.std.specs.Prelude.{◌≡◌, ℕ, List, Option, Some, None, codes}
use Rattle.dwarf_base_core.specs.declared.common.SectionId.{SectionId}
use Rattle.dwarf_base_core.specs.declared.common.SectionId.TheVariants.{DebugAbbrev, DebugAddr, DebugAranges, DebugCuIndex, DebugFrame, EhFrame, EhFrameHdr, DebugGnuPubNames, DebugGnuPubTypes, DebugInfo, DebugLine, DebugLineStr, DebugLoc, DebugLocLists, DebugMacinfo, DebugMacro, DebugNames, DebugPubNames, DebugPubTypes, DebugRanges, DebugRngLists, DebugStr, DebugStrOffsets, DebugTuIndex, DebugTypes}

-- the names of a section in an ELF object, in a split object or a package, and in an XCOFF object
pub record SectionNames : Type 0 where
  pub name : List ℕ
  pub dwo_name : Option (List ℕ)
  pub xcoff_name : Option (List ℕ)

abbrev pub names : List ℕ → Option (List ℕ) → Option (List ℕ) → SectionNames
names name dwo_name xcoff_name = record { name = name; dwo_name = dwo_name; xcoff_name = xcoff_name }

-- the table of names
abbrev pub section_names : SectionId → SectionNames
section_names DebugAbbrev = names (codes ".debug_abbrev") (Some (codes ".debug_abbrev.dwo")) (Some (codes ".dwabrev"))
section_names DebugAddr = names (codes ".debug_addr") None None
section_names DebugAranges = names (codes ".debug_aranges") None (Some (codes ".dwarnge"))
section_names DebugCuIndex = names (codes ".debug_cu_index") (Some (codes ".debug_cu_index")) None
section_names DebugFrame = names (codes ".debug_frame") None (Some (codes ".dwframe"))
section_names EhFrame = names (codes ".eh_frame") None None
section_names EhFrameHdr = names (codes ".eh_frame_hdr") None None
section_names DebugGnuPubNames = names (codes ".debug_gnu_pubnames") None None
section_names DebugGnuPubTypes = names (codes ".debug_gnu_pubtypes") None None
section_names DebugInfo = names (codes ".debug_info") (Some (codes ".debug_info.dwo")) (Some (codes ".dwinfo"))
section_names DebugLine = names (codes ".debug_line") (Some (codes ".debug_line.dwo")) (Some (codes ".dwline"))
section_names DebugLineStr = names (codes ".debug_line_str") None None
section_names DebugLoc = names (codes ".debug_loc") (Some (codes ".debug_loc.dwo")) (Some (codes ".dwloc"))
section_names DebugLocLists = names (codes ".debug_loclists") (Some (codes ".debug_loclists.dwo")) None
section_names DebugMacinfo = names (codes ".debug_macinfo") (Some (codes ".debug_macinfo.dwo")) (Some (codes ".dwmac"))
section_names DebugMacro = names (codes ".debug_macro") (Some (codes ".debug_macro.dwo")) None
section_names DebugNames = names (codes ".debug_names") None None
section_names DebugPubNames = names (codes ".debug_pubnames") None (Some (codes ".dwpbnms"))
section_names DebugPubTypes = names (codes ".debug_pubtypes") None (Some (codes ".dwpbtyp"))
section_names DebugRanges = names (codes ".debug_ranges") None (Some (codes ".dwrnges"))
section_names DebugRngLists = names (codes ".debug_rnglists") (Some (codes ".debug_rnglists.dwo")) None
section_names DebugStr = names (codes ".debug_str") (Some (codes ".debug_str.dwo")) (Some (codes ".dwstr"))
section_names DebugStrOffsets = names (codes ".debug_str_offsets") (Some (codes ".debug_str_offsets.dwo")) None
section_names DebugTuIndex = names (codes ".debug_tu_index") (Some (codes ".debug_tu_index")) None
section_names DebugTypes = names (codes ".debug_types") (Some (codes ".debug_types.dwo")) None

-- a name determines its section
abbrev pub NamesAreDistinct : Type 0
NamesAreDistinct = (x y : SectionId) → (section_names x).name ≡ (section_names y).name → x ≡ y
