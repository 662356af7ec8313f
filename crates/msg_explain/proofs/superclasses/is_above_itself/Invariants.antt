use Rattle.std.proofs.Common.{◌≡◌, ◌-◌, length, option_map}
use Rattle.msg_form.specs.Views.{class_view, classes_view}
use Rattle.msg_explain.specs.Judging.{is_met}
use Rattle.msg_explain.proofs.superclasses.is_above_itself.Given as goal

-- the classes above decide
abbrev pub invariant-loop-step : goal.invariant-loop-step
invariant-loop-step l = is_met (length l.classes - l._step) (classes_view l.classes) (class_view l.class).name (option_map (λ s. s.now) l.above) ≡ is_met (length l.classes) (classes_view l.classes) (class_view l.class).name (class_view l.class).superclass
