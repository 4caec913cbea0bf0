use Rattle.std.proofs.Common.{refl}
use Rattle.dwarf_const_core.specs.DwForm.{form_names}
use Rattle.dwarf_code_core.specs.DwChildren.{children_names}
use Rattle.dwarf_read_core.proofs.laws.grammar_has_names.Goals as goal

pub returns : goal.returns
unfolding form_names children_names
returns c = record { without_children = refl; with_children = refl; with_value = refl }
