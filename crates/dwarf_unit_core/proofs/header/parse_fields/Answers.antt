use Rattle.std.proofs.Common.{arith}
use Rattle.dwarf_unit_core.proofs.UnitHeaders.{version-5, version-before_5}
use Rattle.dwarf_unit_core.proofs.header.parse_fields.Goals as goal

pub returns-in-5-clause-read : goal.returns-in-5-clause-read
returns-in-5-clause-read g c =
    version-5 _ _ c.args.code.0 _ _ c.in_ok-version.ensures.ok c.in-5.is c.parse_from_5.result
    c.parse_from_5.ensures.read

pub returns-in-2-to-4-clause-read : goal.returns-in-2-to-4-clause-read
returns-in-2-to-4-clause-read g c =
    version-before_5 _ _ c.args.code.0 _ _ c.in_ok-version.ensures.ok (omega arith) (omega arith)
    c.parse_before_5.result c.parse_before_5.ensures.read
