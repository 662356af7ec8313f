use Rattle.std.proofs.Common.{Some, sym, ap, ◌∙◌}
use Rattle.msg_form.specs.Expression.{binary}
use Rattle.msg_form.specs.ExprView.{expr_view}
use Rattle.msg_form.specs.declared.form.BinaryExpr.{out-BinaryExpr}
use Rattle.msg_form.proofs.KeptLemmas.{seen-Binary}
use Rattle.msg_form.proofs.read.expr.kept_binary.Goals as goal

pub returns-in-Ok : goal.returns-in-Ok
returns-in-Ok c = sym (ap (λ e. Some e) (seen-Binary _) ∙ ap (λ y. Some (binary (out-BinaryExpr y).operator (expr_view (out-BinaryExpr y).left) (expr_view (out-BinaryExpr y).right))) c.in-Ok.ensures)
