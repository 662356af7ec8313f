use Rattle.std.proofs.Common.{Some, map, sym, ap, ◌∙◌}
use Rattle.msg_form.specs.Expression.{send, expressions}
use Rattle.msg_form.specs.ExprView.{expr_view}
use Rattle.msg_form.specs.declared.form.SendExpr.{out-SendExpr}
use Rattle.msg_form.proofs.KeptLemmas.{seen-Send}
use Rattle.msg_form.proofs.read.expr.kept_send.Goals as goal

pub returns-in-Ok : goal.returns-in-Ok
returns-in-Ok c = sym (ap (λ e. Some e) (seen-Send _) ∙ ap (λ y. Some (send (expr_view (out-SendExpr y).receiver) (out-SendExpr y).selector.now (expressions (map expr_view (out-SendExpr y).args.now)))) c.in-Ok.ensures)
