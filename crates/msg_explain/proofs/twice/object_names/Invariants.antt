use Rattle.std.proofs.Common.{◌≡◌, ◌++◌, map, drop}
use Rattle.msg_form.specs.Text.{texts_view}
use Rattle.msg_form.specs.Views.{object_view}
use Rattle.msg_explain.proofs.twice.object_names.Given as goal

-- the names so far, and those that are left
abbrev pub invariant-loop-object : goal.invariant-loop-object
invariant-loop-object l = texts_view l.names.items ++ map (λ p. p.name) (map object_view (drop l.object-index l.form.objects.items)) ≡ map (λ p. p.name) (map object_view l.form.objects.items)
