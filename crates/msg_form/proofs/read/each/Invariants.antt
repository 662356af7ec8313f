use Rattle.std.proofs.Common.{◌≡◌, map, drop}
use Rattle.msg_json.specs.View.{view}
use Rattle.msg_form.specs.Json.{each}
use Rattle.msg_form.proofs.JsonLemmas.{with_first}
use Rattle.msg_form.proofs.read.each.Given as goal

abbrev pub invariant-loop-value : goal.invariant-loop-value
invariant-loop-value g l =
    with_first (map g.T.FromValue.plain l.parts.items) (each g.T.FromValue.spelled (map view (drop l.value-index l.values))) ≡ each g.T.FromValue.spelled (map view l.values)
