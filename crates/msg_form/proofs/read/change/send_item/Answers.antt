use Rattle.std.proofs.Common.{refl}
use Rattle.std.proofs.lemmas.Result.{err_from_is_err_and}
use Rattle.msg_json.specs.View.{view}
use Rattle.msg_form.specs.ExprView.{constant_view}
use Rattle.msg_form.proofs.ReadLemmas.{fails_on, send_item_left}
use Rattle.msg_form.proofs.read.change.send_item.Goals as goal

pub returns-in_err-constants : goal.returns-in_err-constants
returns-in_err-constants c =
    let e = err_from_is_err_and c.from_residual.result c.from_residual.ensures.1 in
    let left = send_item_left (view c.args.value.now) c.in-Some.values.now c.index-values-0.result (constant_view c.in-Some-constant.receiver) c.in-Some-text_in.selector.now c.in-Some.ensures c.if-values-lt2.false c.index-values-0.is c.in-Some-constant.ensures c.in-Some-text_in.ensures in
    rw (e.1, e.2, left) (fails_on c.in_err-constants.field-0.0 _ _ c.in_err-constants.ensures)

pub returns : goal.returns
returns c =
    let left = send_item_left (view c.args.value.now) c.in-Some.values.now c.index-values-0.result (constant_view c.in-Some-constant.receiver) c.in-Some-text_in.selector.now c.in-Some.ensures c.if-values-lt2.false c.index-values-0.is c.in-Some-constant.ensures c.in-Some-text_in.ensures in
    rw (left, c.in_ok-constants.ensures) refl
