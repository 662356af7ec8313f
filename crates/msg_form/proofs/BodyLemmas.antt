-- What is wrong with bodies.
use Rattle.std.proofs.Common.{◌≡◌, Bool, not, ◌&&◌, List, sym, ap, ◌∙◌}
use Rattle.std.specs.List.{flat_map, list_any}
use Rattle.msg_form.specs.BodyFaults.{AreBodyFaults}
use Rattle.msg_form.specs.Expression.{Expression}
use Rattle.msg_form.specs.Faults.{sends_above, is_miscounted_send, reads_beyond, is_too_deep, has_wrong_argument_index, has_too_deep_body}
use Rattle.msg_form.specs.Form.{ImpForm, Form}
use Rattle.msg_form.specs.Lists.{class_names, root_names, object_names}
use Rattle.msg_form.specs.Parts.{classes_in, objects_in, sends_in, is_super_send, parts}
use Rattle.msg_form.specs.Text.{Text, is_unknown, distinct}
use Rattle.msg_form.specs.declared.judge.bodies.BodyFaults.{BodyFaults}
use Rattle.msg_form.proofs.AnyLemmas.{list_any-flat_map}
use Rattle.msg_form.proofs.TextLemmas.{is_among-distinct}

sends_above-distinct : (roots : List Text) → sends_above (distinct roots) ≡ sends_above roots
sends_above-distinct roots = λ i imp. not imp.meta && is_among-distinct imp.class roots i && list_any is_super_send (parts imp.body)

pub is_unknown-distinct : (names : List Text) → is_unknown (distinct names) ≡ is_unknown names
is_unknown-distinct names = λ i n. not (is_among-distinct n names i)

-- one test of the names in each body is the test of all those names
any_in_bodies : (p : Text → Bool) (own : Expression → List Text) (imps : List ImpForm) → list_any (λ i. list_any p (own i.body)) imps ≡ list_any p (flat_map (λ i. own i.body) imps)
any_in_bodies p own imps = sym (list_any-flat_map p (λ i. own i.body) imps)

module _ (f : Form) (b : BodyFaults) where
  above : (roots : List Text) → roots ≡ distinct (root_names f) → b.sends_above ≡ list_any (sends_above roots) f.imps → b.sends_above ≡ list_any (sends_above (root_names f)) f.imps
  above roots is e = e ∙ ap (λ p. list_any p f.imps) (ap sends_above is ∙ sends_above-distinct (root_names f))

  unknown : (own : Expression → List Text) (set names : List Text) (r : Bool) → set ≡ distinct names → r ≡ list_any (λ i. list_any (is_unknown set) (own i.body)) f.imps → r ≡ list_any (is_unknown names) (flat_map (λ i. own i.body) f.imps)
  unknown own set names r is e =
      let test : is_unknown set ≡ is_unknown names = ap is_unknown is ∙ is_unknown-distinct names in
      e ∙ ap (λ p. list_any (λ i. list_any p (own i.body)) f.imps) test ∙ any_in_bodies (is_unknown names) own f.imps

  -- six tests of each body, with sets of the form's names, are the faults of its bodies
  pub are_faults : (classes roots objects : List Text) → classes ≡ distinct (class_names f) → roots ≡ distinct (root_names f) → objects ≡ distinct (object_names f)
      → b.sends_above ≡ list_any (sends_above roots) f.imps → b.unknown_class ≡ list_any (λ i. list_any (is_unknown classes) (classes_in i.body)) f.imps
      → b.unknown_object ≡ list_any (λ i. list_any (is_unknown objects) (objects_in i.body)) f.imps → b.argument_count ≡ list_any (λ i. list_any is_miscounted_send (sends_in i.body)) f.imps
      → b.argument_index ≡ list_any reads_beyond f.imps → b.too_deep ≡ list_any (λ i. is_too_deep i.body) f.imps → AreBodyFaults b f
  unfolding has_wrong_argument_index has_too_deep_body
  are_faults classes roots objects k r o at_root class object count index deep = record {
    sends_above = above roots r at_root;
    unknown_class = unknown classes_in classes (class_names f) b.unknown_class k class;
    unknown_object = unknown objects_in objects (object_names f) b.unknown_object o object;
    argument_count = count ∙ sym (list_any-flat_map is_miscounted_send (λ i. sends_in i.body) f.imps);
    argument_index = index;
    too_deep = deep;
  }
