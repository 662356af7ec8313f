-- Filling in a form.
use Rattle.std.specs.Prelude.{Option, Result}
use Rattle.serde_json.specs.Data.{Data}
use Rattle.msg_form.specs.Form as plain
use Rattle.msg_form.specs.Gives.{Gives}
use Rattle.msg_form.specs.Shape.{parts_of}
use Rattle.msg_form.specs.Text.{texts_view}
use Rattle.msg_form.specs.Views.{form_view}
use Rattle.msg_form.specs.declared.faults.ReadFault.{ReadFault}
use Rattle.msg_form.specs.declared.form.Form.{Form}

-- the form after a reader returned is what the value spells
abbrev pub Fills : {X : Type 0} → Form → Result X ReadFault → Option plain.Form → Type 0
Fills new result spelled = Gives (λ _. form_view new) result spelled

-- the form that a value spells, for a known version and known classes that may be made
abbrev pub whole_form_of : Form → Data → Option plain.Form
whole_form_of f d = parts_of f.version (texts_view f.made.items) d
