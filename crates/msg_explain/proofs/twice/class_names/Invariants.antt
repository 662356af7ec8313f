use Rattle.std.proofs.Common.{◌≡◌, ◌++◌, map, drop}
use Rattle.msg_form.specs.Text.{texts_view}
use Rattle.msg_form.specs.Views.{classes_view}
use Rattle.msg_explain.proofs.twice.class_names.Given as goal

-- the names so far, and those that are left
abbrev pub invariant-loop-class : goal.invariant-loop-class
invariant-loop-class l = texts_view l.names.items ++ map (λ p. p.name) (classes_view (drop l.class-index l.form.classes.items)) ≡ map (λ p. p.name) (classes_view l.form.classes.items)
