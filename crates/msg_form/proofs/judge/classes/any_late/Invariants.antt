use Rattle.std.proofs.Common.{◌≡◌, map, drop}
use Rattle.msg_form.specs.Faults.{has_late_superclass}
use Rattle.msg_form.specs.Views.{class_view}
use Rattle.msg_form.proofs.judge.classes.any_late.Given as goal

abbrev pub invariant-loop-class : goal.invariant-loop-class
invariant-loop-class l = has_late_superclass l.earlier (map class_view (drop l.class-index l.classes)) ≡ has_late_superclass l.initial.earlier (map class_view l.classes)
