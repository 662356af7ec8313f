use Rattle.std.proofs.Common.{map}
use Rattle.std.proofs.lemmas.Result.{err_from_is_err_and}
use Rattle.msg_json.specs.View.{view}
use Rattle.msg_form.specs.Json.{each}
use Rattle.msg_form.proofs.JsonLemmas.{each_on, each_done, each_fails, starts}
use Rattle.msg_form.proofs.read.each.Goals as goal

pub loop-value-init : goal.loop-value-init
loop-value-init g c = rw c.in_ok-parts.ensures.items (starts (each g.T.FromValue.spelled (map view c.args.values.now)))

pub loop-value-preserved : goal.loop-value-preserved
loop-value-preserved g c =
    each_on g.T.FromValue.plain g.T.FromValue.spelled c.args.values.now c.loop-value.value-index c.value-item.result c.loop-value.parts.items c.push.new.self.items c.in_ok-from_value.field-0 (each g.T.FromValue.spelled (map view c.args.values.now))
    c.loop-value-test.true c.value-item.is c.in_ok-from_value.ensures c.in_ok-push.ensures.items c.loop-value.invariant

pub returns : goal.returns
returns g c = each_done g.T.FromValue.plain g.T.FromValue.spelled c.args.values.now c.loop-value.value-index c.loop-value.parts.items (each g.T.FromValue.spelled (map view c.args.values.now)) c.loop-value-test.false c.loop-value.invariant

pub returns-in_err-from_value : goal.returns-in_err-from_value
returns-in_err-from_value g c =
    let e = err_from_is_err_and c.from_residual-in_err-from_value.result c.from_residual-in_err-from_value.ensures.1 in
    rw (e.1, e.2)
    (each_fails g.T.FromValue.plain g.T.FromValue.spelled c.args.values.now c.loop-value.value-index c.value-item.result c.loop-value.parts.items (each g.T.FromValue.spelled (map view c.args.values.now)) c.in_err-from_value.field-0.0 c.loop-value-test.true c.value-item.is c.in_err-from_value.ensures c.loop-value.invariant)

pub returns-in_err-push : goal.returns-in_err-push
returns-in_err-push g c =
    let e = err_from_is_err_and c.from_residual-in_err-push.result c.from_residual-in_err-push.ensures.1 in
    rw (e.1, e.2) tt
