use Rattle.std.proofs.Common.{◌≡◌, ◌++◌, drop}
use Rattle.std.specs.List.{flat_map}
use Rattle.msg_reasons.specs.Moving.{all_seen}
use Rattle.msg_reasons.specs.Text.{seen_line}
use Rattle.msg_reasons.proofs.text.push_seen_lines.Given as goal

-- with the lookups that are left the lines are whole
abbrev pub invariant-loop-one : goal.invariant-loop-one
invariant-loop-one l = l.text.items ++ flat_map (seen_line l.image) (all_seen (drop l.one-index l.seen)) ≡ l.fn.text.items ++ flat_map (seen_line l.image) (all_seen l.seen)
