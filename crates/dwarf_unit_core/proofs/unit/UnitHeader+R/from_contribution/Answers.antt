use Rattle.dwarf_unit_core.specs.Seen.{seen_fields}
use Rattle.dwarf_unit_core.proofs.unit.UnitHeader+R.from_contribution.Goals as goal

pub returns-clause-seen : goal.returns-clause-seen
returns-clause-seen g c = λ i. record {
  offset = c.section_offset.ensures i;
  format = c.format.ensures i;
  unit_length = c.length.ensures i;
  header = seen_fields g.R.Offset.ReaderOffset.value c.args.fields;
  entries = g.R.Reader.view (c.into_entries.ensures i);
}
