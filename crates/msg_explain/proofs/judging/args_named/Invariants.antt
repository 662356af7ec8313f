use Rattle.std.proofs.Common.{◌≡◌, map, drop}
use Rattle.msg_form.specs.Faults.{args_named}
use Rattle.msg_form.specs.Views.{imp_view}
use Rattle.msg_explain.proofs.judging.args_named.Given as goal

-- the implementations that are left decide
abbrev pub invariant-loop-imp : goal.invariant-loop-imp
invariant-loop-imp l = args_named (map imp_view (drop l.imp-index l.imps)) l.name ≡ args_named (map imp_view l.imps) l.name
