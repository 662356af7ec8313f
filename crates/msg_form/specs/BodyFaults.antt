-- What is wrong with the bodies of a form.
use Rattle.std.specs.Prelude.{◌≡◌, ℕ, ◌||◌, Bool, List, [], nat_le}
use Rattle.std.specs.List.{list_any}
use Rattle.msg_form.specs.declared.judge.bodies.BodyFaults.{BodyFaults}
use Rattle.msg_form.specs.Expression.{Expression}
use Rattle.msg_form.specs.Faults as spec
use Rattle.msg_form.specs.Form.{Form, ImpForm}
use Rattle.msg_form.specs.Lists.{class_names, root_names, object_names, body_classes, body_objects, body_sends}
use Rattle.msg_form.specs.Parts.{classes_in, indices_in, is_super_send, objects_in, parts, sends_in}
use Rattle.msg_form.specs.Text.{Text, is_unknown}

-- a body names a class that is not among the names
abbrev pub names_unknown_class : List Text → ImpForm → Bool
names_unknown_class classes i = list_any (is_unknown classes) (classes_in i.body)

-- a body names an object that is not among the names
abbrev pub names_unknown_object : List Text → ImpForm → Bool
names_unknown_object objects i = list_any (is_unknown objects) (objects_in i.body)

-- a send of a body has too few or too many arguments
abbrev pub has_miscounted_send : ImpForm → Bool
has_miscounted_send i = list_any spec.is_miscounted_send (sends_in i.body)

-- which faults the bodies of a form have, each on its own
pub record AreBodyFaults (b : BodyFaults) (f : Form) : Type 0 where
  pub sends_above : b.sends_above ≡ list_any (spec.sends_above (root_names f)) f.imps
  pub unknown_class : b.unknown_class ≡ list_any (is_unknown (class_names f)) (body_classes f)
  pub unknown_object : b.unknown_object ≡ list_any (is_unknown (object_names f)) (body_objects f)
  pub argument_count : b.argument_count ≡ list_any spec.is_miscounted_send (body_sends f)
  pub argument_index : b.argument_index ≡ spec.has_wrong_argument_index f
  pub too_deep : b.too_deep ≡ spec.has_too_deep_body f

-- the faults of a body in the worst case: in a method of a root class, if no class and no object
-- has a name
pub record AreWorst (w : BodyFaults) (args : ℕ) (body : Expression) : Type 0 where
  pub sends_above : w.sends_above ≡ list_any is_super_send (parts body)
  pub unknown_class : w.unknown_class ≡ list_any (is_unknown []) (classes_in body)
  pub unknown_object : w.unknown_object ≡ list_any (is_unknown []) (objects_in body)
  pub argument_count : w.argument_count ≡ list_any spec.is_miscounted_send (sends_in body)
  pub argument_index : w.argument_index ≡ list_any (nat_le args) (indices_in body)
  pub too_deep : w.too_deep ≡ spec.is_too_deep body

-- a body's faults are added, for these names of roots, classes and objects
pub record AreAdded (roots classes objects : List Text) (old new : BodyFaults) (i : ImpForm) : Type 0 where
  pub sends_above : new.sends_above ≡ (old.sends_above || spec.sends_above roots i)
  pub unknown_class : new.unknown_class ≡ (old.unknown_class || names_unknown_class classes i)
  pub unknown_object : new.unknown_object ≡ (old.unknown_object || names_unknown_object objects i)
  pub argument_count : new.argument_count ≡ (old.argument_count || has_miscounted_send i)
  pub argument_index : new.argument_index ≡ (old.argument_index || spec.reads_beyond i)
  pub too_deep : new.too_deep ≡ (old.too_deep || spec.is_too_deep i.body)
