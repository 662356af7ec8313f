use Rattle.std.proofs.Common.{◌≡◌, map, drop}
use Rattle.std.specs.List.{list_all}
use Rattle.msg_json.specs.View.{view}
use Rattle.msg_explain.specs.Fitting.{is_part}
use Rattle.msg_explain.proofs.fitting.are_parts.Given as goal

-- the values that are left decide
abbrev pub invariant-loop-value : goal.invariant-loop-value
invariant-loop-value l = list_all (is_part l.part) (map view (drop l.value-index l.values)) ≡ list_all (is_part l.part) (map view l.values)
