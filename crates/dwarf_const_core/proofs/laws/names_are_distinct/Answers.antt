-- The values of each list rise, so no value occurs twice. tools/constants writes this file.
use Rattle.std.proofs.Common.{refl}
use Rattle.dwarf_const_core.specs.DwAt.{attribute_names}
use Rattle.dwarf_const_core.specs.DwForm.{form_names}
use Rattle.dwarf_const_core.specs.DwIdx.{index_attribute_names}
use Rattle.dwarf_const_core.specs.DwLang.{language_names}
use Rattle.dwarf_const_core.specs.DwLnct.{line_content_names}
use Rattle.dwarf_const_core.specs.DwTag.{tag_names}
use Rattle.dwarf_const_core.proofs.public.Search.{distinct_from_rising}
use Rattle.dwarf_const_core.proofs.laws.names_are_distinct.Goals as goal

pub returns-clause-attribute : goal.returns-clause-attribute
unfolding attribute_names
returns-clause-attribute c = distinct_from_rising attribute_names refl

pub returns-clause-form : goal.returns-clause-form
unfolding form_names
returns-clause-form c = distinct_from_rising form_names refl

pub returns-clause-index_attribute : goal.returns-clause-index_attribute
unfolding index_attribute_names
returns-clause-index_attribute c = distinct_from_rising index_attribute_names refl

pub returns-clause-language : goal.returns-clause-language
unfolding language_names
returns-clause-language c = distinct_from_rising language_names refl

pub returns-clause-line_content : goal.returns-clause-line_content
unfolding line_content_names
returns-clause-line_content c = distinct_from_rising line_content_names refl

pub returns-clause-tag : goal.returns-clause-tag
unfolding tag_names
returns-clause-tag c = distinct_from_rising tag_names refl
