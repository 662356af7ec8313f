use Rattle.std.proofs.Common.{map, ◌++◌}
use Rattle.std.proofs.lemmas.Result.{on_ok_weaker}
use Rattle.msg_form.specs.Expression.{expressions}
use Rattle.msg_form.specs.ExprView.{expr_view}
use Rattle.msg_form.specs.Text.{texts_view}
use Rattle.msg_form.specs.Walk.{all_texts_in}
use Rattle.msg_form.proofs.BodyWalkLemmas.{texts-Const, texts-Whole, none_pushed, texts-Binary, texts-If, texts-Send, texts-Super, leaf_pushed, one_pushed, two_pushed, three_pushed, selector_pushed, send_pushed, pushed_on, pushed_all}
use Rattle.msg_form.proofs.walk.+push_expr.Goals as goal

pub push_expr-returns-in-Const : goal.push_expr-returns-in-Const
push_expr-returns-in-Const t c =
    on_ok_weaker c.push_selectors.result (one_pushed (texts_view c.args.texts.now.items) (texts_view c.push_selectors.new.texts.items) _ _ (texts-Const c.args.expr.now c.in-Const.constant c.in-Const.is)) c.push_selectors.ensures

pub push_expr-returns-in-Whole : goal.push_expr-returns-in-Whole
push_expr-returns-in-Whole t c = none_pushed (texts_view c.args.texts.now.items) _ (texts-Whole c.args.expr.now c.in-Whole.is)

pub push_expr-returns-in-Me : goal.push_expr-returns-in-Me
push_expr-returns-in-Me t c = leaf_pushed c.args.expr.now (texts_view c.args.texts.now.items) c.in-Me.is

pub push_expr-returns-in_ok-push_expr-in-Binary : goal.push_expr-returns-in_ok-push_expr-in-Binary
push_expr-returns-in_ok-push_expr-in-Binary t c =
    let left = c.in_ok-push_expr-in-Binary.ensures in
    let right = c.push_expr-in-Binary.ensures in
    on_ok_weaker c.push_expr-in-Binary.result
    (two_pushed (texts_view c.args.texts.now.items) (texts_view c.push_expr.new.texts.items) (texts_view c.push_expr-in-Binary.new.texts.items) _ _ _ (texts-Binary c.args.expr.now c.in-Binary.binary c.in-Binary.is) left) right

pub push_expr-returns-in_ok-push_expr-in-If-2 : goal.push_expr-returns-in_ok-push_expr-in-If-2
push_expr-returns-in_ok-push_expr-in-If-2 t c =
    let condition = c.in_ok-push_expr-in-If.ensures in
    let then = c.in_ok-push_expr-in-If-2.ensures in
    let otherwise = c.push_expr-in-If-3.ensures in
    on_ok_weaker c.push_expr-in-If-3.result
    (three_pushed (texts_view c.args.texts.now.items) (texts_view c.push_expr-in-If.new.texts.items) (texts_view c.push_expr-in-If-2.new.texts.items) (texts_view c.push_expr-in-If-3.new.texts.items) _ _ _ _
    (texts-If c.args.expr.now c.in-If.choice c.in-If.is) condition then)
    otherwise

pub push_expr-returns-in_ok-push_text-in-Send : goal.push_expr-returns-in_ok-push_text-in-Send
push_expr-returns-in_ok-push_text-in-Send t c =
    let receiver = c.in_ok-push_expr-in-Send.ensures in
    let selector = c.in_ok-push_text-in-Send.ensures in
    let args = c.push_exprs.ensures in
    on_ok_weaker c.push_exprs.result
    (send_pushed _ (texts_view c.args.texts.now.items) (texts_view c.push_expr-in-Send.new.texts.items) (texts_view c.push_text.new.texts.items) (texts_view c.push_exprs.new.texts.items) _ _ _ (texts-Send c.args.expr.now c.in-Send.send c.in-Send.is) receiver selector) args

pub push_expr-returns-in_ok-push_text-in-Super : goal.push_expr-returns-in_ok-push_text-in-Super
push_expr-returns-in_ok-push_text-in-Super t c =
    let selector = c.in_ok-push_text-in-Super.ensures in
    let args = c.push_exprs-in-Super.ensures in
    on_ok_weaker c.push_exprs-in-Super.result
    (selector_pushed _ (texts_view c.args.texts.now.items) (texts_view c.push_text-in-Super.new.texts.items) (texts_view c.push_exprs-in-Super.new.texts.items) _ _ (texts-Super c.args.expr.now c.in-Super.send c.in-Super.is) selector) args

pub push_exprs-loop-expr-preserved : goal.push_exprs-loop-expr-preserved
push_exprs-loop-expr-preserved t c =
    pushed_on c.args.exprs.now c.loop-expr.expr-index c.expr-item.result (texts_view c.loop-expr.texts.items) (texts_view c.push_expr.new.texts.items) (texts_view c.args.texts.now.items ++ all_texts_in (expressions (map expr_view c.args.exprs.now)))
    c.loop-expr-test.true c.expr-item.is c.in_ok-push_expr.ensures c.loop-expr.invariant

pub push_exprs-returns : goal.push_exprs-returns
push_exprs-returns t c =
    pushed_all c.args.exprs.now c.loop-expr.expr-index (texts_view c.loop-expr.texts.items) (texts_view c.args.texts.now.items ++ all_texts_in (expressions (map expr_view c.args.exprs.now))) c.loop-expr-test.false c.loop-expr.invariant
