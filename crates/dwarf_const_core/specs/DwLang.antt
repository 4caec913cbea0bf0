-- The values and names of the constants of `DwLang`, and what it prints.
use Rattle.std.specs.Prelude.{ℕ, List, [], ◌∷◌, Option, Some, None, codes, if◌then◌else◌}
use Rattle.dwarf_const_core.specs.declared.language.TheConstants.{DW_LANG_C89, DW_LANG_C, DW_LANG_C_plus_plus, DW_LANG_Java}
use Rattle.dwarf_const_core.specs.declared.language.TheConstants.{DW_LANG_C99, DW_LANG_ObjC, DW_LANG_ObjC_plus_plus, DW_LANG_UPC}
use Rattle.dwarf_const_core.specs.declared.language.TheConstants.{DW_LANG_D, DW_LANG_Python, DW_LANG_OpenCL, DW_LANG_Go}
use Rattle.dwarf_const_core.specs.declared.language.TheConstants.{DW_LANG_Haskell, DW_LANG_C_plus_plus_03, DW_LANG_C_plus_plus_11, DW_LANG_OCaml}
use Rattle.dwarf_const_core.specs.declared.language.TheConstants.{DW_LANG_Rust, DW_LANG_C11, DW_LANG_Swift, DW_LANG_Dylan}
use Rattle.dwarf_const_core.specs.declared.language.TheConstants.{DW_LANG_C_plus_plus_14, DW_LANG_RenderScript, DW_LANG_BLISS}
use Rattle.dwarf_const_core.specs.declared.language.TheConstants.{DW_LANG_Ada83, DW_LANG_Cobol74, DW_LANG_Cobol85, DW_LANG_Fortran77}
use Rattle.dwarf_const_core.specs.declared.language.TheConstants.{DW_LANG_Fortran90, DW_LANG_Pascal83, DW_LANG_Modula2, DW_LANG_Ada95}
use Rattle.dwarf_const_core.specs.declared.language.TheConstants.{DW_LANG_Fortran95, DW_LANG_PLI, DW_LANG_Modula3, DW_LANG_Julia}
use Rattle.dwarf_const_core.specs.declared.language.TheConstants.{DW_LANG_Fortran03, DW_LANG_Fortran08}
use Rattle.dwarf_const_core.specs.Names.{is_among, text_of}

-- each value and its name, by rising value; tools/constants writes the rows from the declarations in src/
unfoldable pub language_names : List (ℕ × List ℕ)
language_names =
    (0x01, codes "DW_LANG_C89") ∷
    (0x02, codes "DW_LANG_C") ∷
    (0x03, codes "DW_LANG_Ada83") ∷
    (0x04, codes "DW_LANG_C_plus_plus") ∷
    (0x05, codes "DW_LANG_Cobol74") ∷
    (0x06, codes "DW_LANG_Cobol85") ∷
    (0x07, codes "DW_LANG_Fortran77") ∷
    (0x08, codes "DW_LANG_Fortran90") ∷
    (0x09, codes "DW_LANG_Pascal83") ∷
    (0x0a, codes "DW_LANG_Modula2") ∷
    (0x0b, codes "DW_LANG_Java") ∷
    (0x0c, codes "DW_LANG_C99") ∷
    (0x0d, codes "DW_LANG_Ada95") ∷
    (0x0e, codes "DW_LANG_Fortran95") ∷
    (0x0f, codes "DW_LANG_PLI") ∷
    (0x10, codes "DW_LANG_ObjC") ∷
    (0x11, codes "DW_LANG_ObjC_plus_plus") ∷
    (0x12, codes "DW_LANG_UPC") ∷
    (0x13, codes "DW_LANG_D") ∷
    (0x14, codes "DW_LANG_Python") ∷
    (0x15, codes "DW_LANG_OpenCL") ∷
    (0x16, codes "DW_LANG_Go") ∷
    (0x17, codes "DW_LANG_Modula3") ∷
    (0x18, codes "DW_LANG_Haskell") ∷
    (0x19, codes "DW_LANG_C_plus_plus_03") ∷
    (0x1a, codes "DW_LANG_C_plus_plus_11") ∷
    (0x1b, codes "DW_LANG_OCaml") ∷
    (0x1c, codes "DW_LANG_Rust") ∷
    (0x1d, codes "DW_LANG_C11") ∷
    (0x1e, codes "DW_LANG_Swift") ∷
    (0x1f, codes "DW_LANG_Julia") ∷
    (0x20, codes "DW_LANG_Dylan") ∷
    (0x21, codes "DW_LANG_C_plus_plus_14") ∷
    (0x22, codes "DW_LANG_Fortran03") ∷
    (0x23, codes "DW_LANG_Fortran08") ∷
    (0x24, codes "DW_LANG_RenderScript") ∷
    (0x25, codes "DW_LANG_BLISS") ∷
    (0x26, codes "DW_LANG_Kotlin") ∷
    (0x27, codes "DW_LANG_Zig") ∷
    (0x28, codes "DW_LANG_Crystal") ∷
    (0x2a, codes "DW_LANG_C_plus_plus_17") ∷
    (0x2b, codes "DW_LANG_C_plus_plus_20") ∷
    (0x2c, codes "DW_LANG_C17") ∷
    (0x2d, codes "DW_LANG_Fortran18") ∷
    (0x2e, codes "DW_LANG_Ada2005") ∷
    (0x2f, codes "DW_LANG_Ada2012") ∷
    (0x8000, codes "DW_LANG_lo_user") ∷
    (0x8001, codes "DW_LANG_Mips_Assembler") ∷
    (0x8e57, codes "DW_LANG_GOOGLE_RenderScript") ∷
    (0x9001, codes "DW_LANG_SUN_Assembler") ∷
    (0x9101, codes "DW_LANG_ALTIUM_Assembler") ∷
    (0xb000, codes "DW_LANG_BORLAND_Delphi") ∷
    (0xffff, codes "DW_LANG_hi_user") ∷
    []

-- what `{}` writes for a value
abbrev pub language_text : ℕ → List ℕ
language_text = text_of language_names (codes "DwLang")

-- the languages whose arrays begin at 0 unless a declaration says otherwise
abbrev pub zero_based : List ℕ
zero_based =
    DW_LANG_C89.0 ∷ DW_LANG_C.0 ∷ DW_LANG_C_plus_plus.0 ∷ DW_LANG_Java.0 ∷ DW_LANG_C99.0 ∷ DW_LANG_ObjC.0 ∷
    DW_LANG_ObjC_plus_plus.0 ∷ DW_LANG_UPC.0 ∷ DW_LANG_D.0 ∷ DW_LANG_Python.0 ∷ DW_LANG_OpenCL.0 ∷
    DW_LANG_Go.0 ∷ DW_LANG_Haskell.0 ∷ DW_LANG_C_plus_plus_03.0 ∷ DW_LANG_C_plus_plus_11.0 ∷ DW_LANG_OCaml.0 ∷
    DW_LANG_Rust.0 ∷ DW_LANG_C11.0 ∷ DW_LANG_Swift.0 ∷ DW_LANG_Dylan.0 ∷ DW_LANG_C_plus_plus_14.0 ∷
    DW_LANG_RenderScript.0 ∷ DW_LANG_BLISS.0 ∷ []

-- the languages whose arrays begin at 1 unless a declaration says otherwise
abbrev pub one_based : List ℕ
one_based =
    DW_LANG_Ada83.0 ∷ DW_LANG_Cobol74.0 ∷ DW_LANG_Cobol85.0 ∷ DW_LANG_Fortran77.0 ∷ DW_LANG_Fortran90.0 ∷
    DW_LANG_Pascal83.0 ∷ DW_LANG_Modula2.0 ∷ DW_LANG_Ada95.0 ∷ DW_LANG_Fortran95.0 ∷ DW_LANG_PLI.0 ∷
    DW_LANG_Modula3.0 ∷ DW_LANG_Julia.0 ∷ DW_LANG_Fortran03.0 ∷ DW_LANG_Fortran08.0 ∷ []

-- the index at which a language's arrays begin, if that is known
abbrev pub default_lower_bound : ℕ → Option ℕ
default_lower_bound language =
    if is_among zero_based language then Some 0 else (if is_among one_based language then Some 1 else None)
