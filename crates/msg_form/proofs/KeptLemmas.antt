-- The data of an expression that lies in the arena.
use Rattle.std.proofs.Common.{◌≡◌, map, Bor, rules}
use Rattle.msg_form.specs.Expression.{binary, choice, send, super_send, expressions}
use Rattle.msg_form.specs.ExprView.{expr_view}
use Rattle.msg_form.specs.declared.form.BinaryExpr.{BinaryExpr, out-BinaryExpr}
use Rattle.msg_form.specs.declared.form.Expr.{Binary, If, Send, Super, the_lemmas}
use Rattle.msg_form.specs.declared.form.IfExpr.{IfExpr, out-IfExpr}
use Rattle.msg_form.specs.declared.form.SendExpr.{SendExpr, out-SendExpr}
use Rattle.msg_form.specs.declared.form.SuperExpr.{SuperExpr, out-SuperExpr}

pub seen-Binary : (b : Bor BinaryExpr) → expr_view (Binary b) ≡ binary (out-BinaryExpr b.now).operator (expr_view (out-BinaryExpr b.now).left) (expr_view (out-BinaryExpr b.now).right)
seen-Binary b = search (rules, the_lemmas)

pub seen-If : (b : Bor IfExpr) → expr_view (If b) ≡ choice (expr_view (out-IfExpr b.now).condition) (expr_view (out-IfExpr b.now).then) (expr_view (out-IfExpr b.now).otherwise)
seen-If b = search (rules, the_lemmas)

pub seen-Send : (b : Bor SendExpr) → expr_view (Send b) ≡ send (expr_view (out-SendExpr b.now).receiver) (out-SendExpr b.now).selector.now (expressions (map expr_view (out-SendExpr b.now).args.now))
seen-Send b = search (rules, the_lemmas)

pub seen-Super : (b : Bor SuperExpr) → expr_view (Super b) ≡ super_send (out-SuperExpr b.now).selector.now (expressions (map expr_view (out-SuperExpr b.now).args.now))
seen-Super b = search (rules, the_lemmas)
