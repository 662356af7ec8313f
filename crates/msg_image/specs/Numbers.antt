-- The numbers that a document's names get, and what the names represent.
use Rattle.std.specs.Prelude.{ℕ, ◌-◌, List, unwrap_or}
use Rattle.msg_names.specs.Number.{selector_of, imp_ref_of}
use Rattle.msg_names.specs.Numbering.{number_of}
use Rattle.msg_names.specs.declared.value.ImpRef.{ImpRef}
use Rattle.msg_names.specs.declared.value.ObjectRef.{ObjectRef}
use Rattle.msg_names.specs.declared.value.Selector.{Selector}
use Rattle.msg_form.specs.Form.{Form}
use Rattle.msg_form.specs.declared.form_names.FormNames.{FormNames}
use Rattle.msg_form.specs.Lists.{class_names, object_names, imp_names}
use Rattle.msg_form.specs.Text.{Text, distinct}
use Rattle.msg_form.specs.Walk.{selector_texts}

-- Names in the order of their numbers, each once.
pub record Numbers : Type 0 where
  pub selectors : List Text
  -- the listed classes, and after them those that may be made
  pub classes : List Text
  pub objects : List Text
  pub imps : List Text

-- Selectors are numbered as the walk meets them. Where no two classes, objects or implementations
-- have one name, they are numbered as they are listed, and the classes that may be made after the
-- listed ones.
abbrev pub numbers_of : Form → Numbers
numbers_of f = record {
  selectors = distinct (selector_texts f);
  classes = distinct (class_names f);
  objects = distinct (object_names f);
  imps = distinct (imp_names f);
}

-- the numbers that a form's names have
abbrev pub numbers_by : FormNames → Numbers
numbers_by n = record { selectors = n.selectors; classes = n.classes; objects = n.objects; imps = n.imps }

-- A name that is none of the names would represent the first, or forwarding; a document without
-- fault has no such name.
unfoldable pub selector_named : Numbers → Text → Selector
selector_named n text = selector_of (unwrap_or (number_of n.selectors text) 1)

-- the number of a class by its name
unfoldable pub class_named : Numbers → Text → ℕ
class_named n name = unwrap_or (number_of n.classes name) 1 - 1

-- the object of a name
unfoldable pub object_named : Numbers → Text → ObjectRef
object_named n name = record { object = unwrap_or (number_of n.objects name) 1 - 1 }

-- the implementation of a name
unfoldable pub imp_named : Numbers → Text → ImpRef
imp_named n name = imp_ref_of (unwrap_or (number_of n.imps name) 0)
