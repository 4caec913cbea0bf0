use Rattle.std.proofs.Common.{◌≡◌, arith, refl}
use Rattle.dwarf_unit_core.proofs.header.parse_own_fields.Goals as goal

pub returns-in_ok-type_signature-in-DW_UT_type-clause-read : goal.returns-in_ok-type_signature-in-DW_UT_type-clause-read
returns-in_ok-type_signature-in-DW_UT_type-clause-read g c =
    let is_type : c.args.code.0 ≡ 2 = omega arith in
    rw is_type (_, refl, c.in_ok-type_signature-in-DW_UT_type.ensures.read)

pub returns-in_ok-type_signature-in-DW_UT_split_type-clause-read :
    goal.returns-in_ok-type_signature-in-DW_UT_split_type-clause-read
returns-in_ok-type_signature-in-DW_UT_split_type-clause-read g c =
    let is_split_type : c.args.code.0 ≡ 6 = omega arith in
    rw is_split_type (_, refl, c.in_ok-type_signature-in-DW_UT_split_type.ensures.read)
