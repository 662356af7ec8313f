-- The expression that a tree of the program represents.
use Rattle.std.specs.Prelude.{List, map}
use Rattle.msg_form.specs.Expression as plain
use Rattle.msg_form.specs.Expression.{Expression, Expressions, expressions}
use Rattle.msg_form.specs.Text.{Text}
use Rattle.msg_form.specs.declared.form.Constant.{Constant}
use Rattle.msg_form.specs.declared.form.Constant.TheVariants.{Whole, Nil, Object, Class, Selector}
use Rattle.msg_form.specs.declared.form.Operator.{Operator}
use Rattle.msg_form.specs.declared.form.Expr.{Expr, fold-Expr}
use Rattle.msg_form.specs.declared.form.Expr.TheOpen.{Expr-F, BinaryExpr-F, IfExpr-F, SendExpr-F, SuperExpr-F}

-- a constant without its pointers
abbrev pub constant_view : Constant → plain.Constant
constant_view (Whole z) = plain.whole z
constant_view Nil = plain.nil
constant_view (Object n) = plain.object_named n.now
constant_view (Class n) = plain.class_named n.now
constant_view (Selector s) = plain.selector_named s.now

-- ---- one level, with the view of each expression inside

abbrev pub expr_step : Expr-F Expression Expression Expression Expression Expression → Expression
expr_step (Expr-F.Whole z) = plain.constant (plain.whole z)
expr_step (Expr-F.Const c) = plain.constant (constant_view c.now)
expr_step Expr-F.Me = plain.me
expr_step (Expr-F.Arg k) = plain.arg k
expr_step (Expr-F.Binary b) = b.now
expr_step (Expr-F.If c) = c.now
expr_step (Expr-F.Send s) = s.now
expr_step (Expr-F.Super s) = s.now

abbrev pub binary_step : BinaryExpr-F Expression Expression Expression Expression Expression → Expression
binary_step b = plain.binary b.operator b.left b.right

abbrev pub if_step : IfExpr-F Expression Expression Expression Expression Expression → Expression
if_step c = plain.choice c.condition c.then c.otherwise

abbrev pub send_step : SendExpr-F Expression Expression Expression Expression Expression → Expression
send_step s = plain.send s.receiver s.selector.now (expressions s.args.now)

abbrev pub super_step : SuperExpr-F Expression Expression Expression Expression Expression → Expression
super_step s = plain.super_send s.selector.now (expressions s.args.now)

-- ---- the whole

-- an expression without its pointers
abbrev pub expr_view : Expr → Expression
expr_view = fold-Expr Expression Expression Expression Expression Expression expr_step binary_step if_step send_step super_step

-- two expressions without their pointers
abbrev pub pair_of_exprs_view : Expr × Expr → Expression × Expression
pair_of_exprs_view es = (expr_view es.0, expr_view es.1)

abbrev pub exprs_view : List Expr → Expressions
exprs_view es = expressions (map expr_view es)

-- ---- parts that are made of expressions

abbrev pub binary_view : Operator → Expr → Expr → Expression
binary_view operator left right = plain.binary operator (expr_view left) (expr_view right)

abbrev pub choice_view : Expr → Expr → Expr → Expression
choice_view condition then otherwise = plain.choice (expr_view condition) (expr_view then) (expr_view otherwise)

abbrev pub send_view : Expr → Text → List Expr → Expression
send_view receiver selector args = plain.send (expr_view receiver) selector (exprs_view args)
