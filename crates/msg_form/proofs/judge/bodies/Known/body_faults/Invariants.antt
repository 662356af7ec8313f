use Rattle.std.proofs.Common.{◌≡◌, ◌||◌, drop}
use Rattle.std.specs.List.{list_any}
use Rattle.msg_form.specs.Faults as spec
use Rattle.msg_form.specs.Parts.{classes_in, objects_in, sends_in}
use Rattle.msg_form.specs.Text.{is_unknown}
use Rattle.msg_form.specs.Views.{imps_view}
use Rattle.msg_form.proofs.judge.bodies.Known.body_faults.Given as goal

abbrev pub invariant-loop-imp : goal.invariant-loop-imp
invariant-loop-imp l = record {
  sends_above : (l.faults.sends_above || list_any (spec.sends_above l.self.roots.now) (imps_view (drop l.imp-index l.imps))) ≡ list_any (spec.sends_above l.self.roots.now) (imps_view l.imps);
  unknown_class : (l.faults.unknown_class || list_any (λ i. list_any (is_unknown l.self.classes.now) (classes_in i.body)) (imps_view (drop l.imp-index l.imps))) ≡ list_any (λ i. list_any (is_unknown l.self.classes.now) (classes_in i.body)) (imps_view l.imps);
  unknown_object : (l.faults.unknown_object || list_any (λ i. list_any (is_unknown l.self.objects.now) (objects_in i.body)) (imps_view (drop l.imp-index l.imps))) ≡ list_any (λ i. list_any (is_unknown l.self.objects.now) (objects_in i.body)) (imps_view l.imps);
  argument_count : (l.faults.argument_count || list_any (λ i. list_any spec.is_miscounted_send (sends_in i.body)) (imps_view (drop l.imp-index l.imps))) ≡ list_any (λ i. list_any spec.is_miscounted_send (sends_in i.body)) (imps_view l.imps);
  argument_index : (l.faults.argument_index || list_any spec.reads_beyond (imps_view (drop l.imp-index l.imps))) ≡ list_any spec.reads_beyond (imps_view l.imps);
  too_deep : (l.faults.too_deep || list_any (λ i. spec.is_too_deep i.body) (imps_view (drop l.imp-index l.imps))) ≡ list_any (λ i. spec.is_too_deep i.body) (imps_view l.imps);
}
