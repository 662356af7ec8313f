use Rattle.std.proofs.Common.{Some, sym, ap, ◌∙◌}
use Rattle.msg_form.specs.Expression.{choice}
use Rattle.msg_form.specs.ExprView.{expr_view}
use Rattle.msg_form.specs.declared.form.IfExpr.{out-IfExpr}
use Rattle.msg_form.proofs.KeptLemmas.{seen-If}
use Rattle.msg_form.proofs.read.expr.kept_choice.Goals as goal

pub returns-in-Ok : goal.returns-in-Ok
returns-in-Ok c = sym (ap (λ e. Some e) (seen-If _) ∙ ap (λ y. Some (choice (expr_view (out-IfExpr y).condition) (expr_view (out-IfExpr y).then) (expr_view (out-IfExpr y).otherwise))) c.in-Ok.ensures)
