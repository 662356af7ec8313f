use Rattle.std.proofs.Common.{◌≡◌, ◌++◌, map, drop}
use Rattle.msg_form.specs.Expression.{expressions}
use Rattle.msg_form.specs.ExprView.{expr_view}
use Rattle.msg_form.specs.Text.{texts_view}
use Rattle.msg_form.specs.Walk.{all_texts_in}
use Rattle.msg_form.proofs.walk.+push_expr.Given as goal

abbrev pub invariant-push_exprs-loop-expr : goal.invariant-push_exprs-loop-expr
invariant-push_exprs-loop-expr l =
    texts_view l.texts.items ++ all_texts_in (expressions (map expr_view (drop l.expr-index l.exprs))) ≡ texts_view l.initial.texts.items ++ all_texts_in (expressions (map expr_view l.exprs))
