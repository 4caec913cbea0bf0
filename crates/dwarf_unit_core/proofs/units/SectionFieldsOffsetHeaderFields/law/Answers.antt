use Rattle.dwarf_unit_core.proofs.UnitHeaders.{unit_header-is}
use Rattle.dwarf_unit_core.proofs.units.SectionFieldsOffsetHeaderFields.law.Goals as goal

pub returns : goal.returns
returns g c = unit_header-is g.U.UnitSection.TYPE_BEFORE_5.0
