use Rattle.std.proofs.Common.{◌-◌, map, take, drop, length, arith, sym}
use Rattle.std.proofs.lemmas.Result.{err_from_is_err_and}
use Rattle.msg_json.specs.View.{view}
use Rattle.msg_form.specs.ExprShape.{expression_of, all_from}
use Rattle.msg_form.specs.ExprView.{expr_view}
use Rattle.msg_form.proofs.ExprShapeLemmas.{expression_of-array, exprs_start, reading_is, binary_left, choice_left, send_left, binary_fails, choice_fails, send_fails, super_fails}
use Rattle.msg_form.proofs.JsonLemmas.{each_on, each_fails}
use Rattle.msg_form.proofs.ReadLemmas.{fails_on}
use Rattle.msg_form.proofs.read.expr.+expr.Goals as goal

pub expr-returns-in-Array : goal.expr-returns-in-Array
expr-returns-in-Array t c = rw (expression_of-array c.args.value.now c.in-Array.values c.in-Array.is) c.listed.ensures

pub exprs-loop-value-init : goal.exprs-loop-value-init
exprs-loop-value-init t c = exprs_start c.in_ok-exprs.exprs.items c.args.values.now c.args.from c.in_ok-exprs.ensures.items c.requires

pub exprs-loop-value-preserved : goal.exprs-loop-value-preserved
exprs-loop-value-preserved t c =
    each_on expr_view expression_of (take (length c.args.values.now - c.args.from) (drop c.args.from c.args.values.now)) c.loop-value.value-index c.value-item.result c.loop-value.exprs.items c.push.new.self.items c.in_ok-expr.field-0 (all_from c.args.from (map expression_of (map view c.args.values.now))) c.loop-value-test.true c.value-item.is c.in_ok-expr.ensures c.in_ok-push.ensures.items c.loop-value.invariant

pub expr_in-returns : goal.expr_in-returns
expr_in-returns t c = rw (reading_is c.args.values.now c.args.place c.index-values-place.result c.if-place-values.false c.index-values-place.is) c.expr.ensures

pub two-returns-in_err-left : goal.two-returns-in_err-left
two-returns-in_err-left t c =
    let e = err_from_is_err_and c.from_residual.result c.from_residual.ensures.1 in
    rw (e.1, e.2) (fails_on c.in_err-left.field-0.0 _ _ c.in_err-left.ensures)

pub two-returns-in_err-right : goal.two-returns-in_err-right
two-returns-in_err-right t c =
    let e = err_from_is_err_and c.from_residual-in_err-right.result c.from_residual-in_err-right.ensures.1 in
    rw (e.1, e.2, c.in_ok-left.ensures) (fails_on c.in_err-right.field-0.0 _ _ c.in_err-right.ensures)

pub binary-returns : goal.binary-returns
binary-returns t c =
    rw (binary_left c.args.operator c.args.values.now (expr_view c.in_ok-left.left) (omega (arith, c.if-values-ne3.false)) c.in_ok-left.ensures, c.in_ok-right.ensures) c.kept_binary.ensures

pub binary-returns-in_err-left : goal.binary-returns-in_err-left
binary-returns-in_err-left t c =
    let e = err_from_is_err_and c.from_residual.result c.from_residual.ensures.1 in
    rw (e.1, e.2) (binary_fails c.args.operator c.args.values.now c.in_err-left.field-0.0 (omega (arith, c.if-values-ne3.false)) c.in_err-left.ensures)

pub binary-returns-in_err-right : goal.binary-returns-in_err-right
binary-returns-in_err-right t c =
    let e = err_from_is_err_and c.from_residual-in_err-right.result c.from_residual-in_err-right.ensures.1 in
    rw (e.1, e.2, binary_left c.args.operator c.args.values.now (expr_view c.in_ok-left.left) (omega (arith, c.if-values-ne3.false)) c.in_ok-left.ensures) (fails_on c.in_err-right.field-0.0 _ _ c.in_err-right.ensures)

pub choice-returns : goal.choice-returns
choice-returns t c =
    rw (choice_left c.args.values.now (expr_view c.in_ok-condition.condition) (omega (arith, c.if-values-ne4.false)) c.in_ok-condition.ensures, c.in_ok-then.ensures) c.kept_choice.ensures

pub choice-returns-in_err-condition : goal.choice-returns-in_err-condition
choice-returns-in_err-condition t c =
    let e = err_from_is_err_and c.from_residual.result c.from_residual.ensures.1 in
    rw (e.1, e.2) (choice_fails c.args.values.now c.in_err-condition.field-0.0 (omega (arith, c.if-values-ne4.false)) c.in_err-condition.ensures)

pub choice-returns-in_err-then : goal.choice-returns-in_err-then
choice-returns-in_err-then t c =
    let e = err_from_is_err_and c.from_residual-in_err-then.result c.from_residual-in_err-then.ensures.1 in
    rw (e.1, e.2, choice_left c.args.values.now (expr_view c.in_ok-condition.condition) (omega (arith, c.if-values-ne4.false)) c.in_ok-condition.ensures) (fails_on c.in_err-then.field-0.0 _ _ c.in_err-then.ensures)

pub send-returns : goal.send-returns
send-returns t c =
    rw (send_left c.args.values.now (expr_view c.in_ok-receiver.receiver) c.in-Some.selector.now (sym c.in-Some.ensures) c.in_ok-receiver.ensures, c.in_ok-args.ensures) c.kept_send.ensures

pub send-returns-in_err-receiver : goal.send-returns-in_err-receiver
send-returns-in_err-receiver t c =
    let e = err_from_is_err_and c.from_residual.result c.from_residual.ensures.1 in
    rw (e.1, e.2) (send_fails c.args.values.now c.in_err-receiver.field-0.0 c.in_err-receiver.ensures)

pub send-returns-in_err-args : goal.send-returns-in_err-args
send-returns-in_err-args t c =
    let e = err_from_is_err_and c.from_residual-in_err-args.result c.from_residual-in_err-args.ensures.1 in
    rw (e.1, e.2, send_left c.args.values.now (expr_view c.in_ok-receiver.receiver) c.in-Some.selector.now (sym c.in-Some.ensures) c.in_ok-receiver.ensures) (fails_on c.in_err-args.field-0.0 _ _ c.in_err-args.ensures)

pub super_send-returns-in_err-args : goal.super_send-returns-in_err-args
super_send-returns-in_err-args t c =
    let e = err_from_is_err_and c.from_residual.result c.from_residual.ensures.1 in
    rw (e.1, e.2) (super_fails c.args.values.now c.in-Some.selector.now c.in_err-args.field-0.0 c.in-Some.ensures c.in_err-args.ensures)

pub exprs-returns-in_err-expr : goal.exprs-returns-in_err-expr
exprs-returns-in_err-expr t c =
    let e = err_from_is_err_and c.from_residual-in_err-expr.result c.from_residual-in_err-expr.ensures.1 in
    rw (e.1, e.2)
    (each_fails expr_view expression_of (take (length c.args.values.now - c.args.from) (drop c.args.from c.args.values.now)) c.loop-value.value-index c.value-item.result c.loop-value.exprs.items (all_from c.args.from (map expression_of (map view c.args.values.now))) c.in_err-expr.field-0.0 c.loop-value-test.true c.value-item.is c.in_err-expr.ensures c.loop-value.invariant)

pub exprs-returns-in_err-push : goal.exprs-returns-in_err-push
exprs-returns-in_err-push t c =
    let e = err_from_is_err_and c.from_residual-in_err-push.result c.from_residual-in_err-push.ensures.1 in
    rw (e.1, e.2) tt
