use Rattle.std.proofs.Common.{◌≡◌, map, drop}
use Rattle.msg_json.specs.View.{view}
use Rattle.msg_form.specs.ExprShape.{expression_of, all_from}
use Rattle.msg_form.specs.ExprView.{expr_view}
use Rattle.msg_form.specs.Json.{each}
use Rattle.msg_form.proofs.JsonLemmas.{with_first}
use Rattle.msg_form.proofs.read.expr.+expr.Given as goal

abbrev pub invariant-exprs-loop-value : goal.invariant-exprs-loop-value
invariant-exprs-loop-value l =
    with_first (map expr_view l.exprs.items) (each expression_of (map view (drop l.value-index l.value-items))) ≡ all_from l.from (map expression_of (map view l.values))
