use Rattle.std.proofs.Common.{Some, map, sym, ap, ◌∙◌}
use Rattle.msg_form.specs.Expression.{super_send, expressions}
use Rattle.msg_form.specs.ExprView.{expr_view}
use Rattle.msg_form.specs.declared.form.SuperExpr.{out-SuperExpr}
use Rattle.msg_form.proofs.KeptLemmas.{seen-Super}
use Rattle.msg_form.proofs.read.expr.kept_super.Goals as goal

pub returns-in-Ok : goal.returns-in-Ok
returns-in-Ok c = sym (ap (λ e. Some e) (seen-Super _) ∙ ap (λ y. Some (super_send (out-SuperExpr y).selector.now (expressions (map expr_view (out-SuperExpr y).args.now)))) c.in-Ok.ensures)
