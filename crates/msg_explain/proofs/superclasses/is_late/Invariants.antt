use Rattle.std.proofs.Common.{◌≡◌, map, drop}
use Rattle.msg_form.specs.Text.{is_unknown}
use Rattle.msg_form.specs.Views.{class_view}
use Rattle.msg_explain.specs.Judging.{names_before}
use Rattle.msg_explain.proofs.superclasses.is_late.Given as goal

-- the classes that are left decide
abbrev pub invariant-loop-class : goal.invariant-loop-class
invariant-loop-class l = is_unknown (names_before l.name (map class_view (drop l.class-index l.classes))) l.superclass ≡ is_unknown (names_before l.name (map class_view l.classes)) l.superclass
