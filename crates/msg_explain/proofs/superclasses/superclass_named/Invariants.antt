use Rattle.std.proofs.Common.{◌≡◌, map, drop}
use Rattle.msg_form.specs.Views.{class_view}
use Rattle.msg_explain.specs.Judging.{superclass_named}
use Rattle.msg_explain.proofs.superclasses.superclass_named.Given as goal

-- the classes that are left decide
abbrev pub invariant-loop-class : goal.invariant-loop-class
invariant-loop-class l = superclass_named (map class_view (drop l.class-index l.classes)) l.name ≡ superclass_named (map class_view l.classes) l.name
