use Rattle.std.proofs.Common.{◌≡◌, ◌++◌, map, drop}
use Rattle.msg_form.specs.Text.{texts_view}
use Rattle.msg_form.specs.Views.{imps_view}
use Rattle.msg_explain.proofs.twice.imp_names.Given as goal

-- the names so far, and those that are left
abbrev pub invariant-loop-imp : goal.invariant-loop-imp
invariant-loop-imp l = texts_view l.names.items ++ map (λ p. p.name) (imps_view (drop l.imp-index l.form.imps.items)) ≡ map (λ p. p.name) (imps_view l.form.imps.items)
