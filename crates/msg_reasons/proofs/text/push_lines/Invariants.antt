use Rattle.std.proofs.Common.{◌≡◌, ◌++◌, drop}
use Rattle.std.specs.List.{flat_map}
use Rattle.msg_reasons.specs.Looked.{all_looked}
use Rattle.msg_reasons.specs.Lines.{AreLines}
use Rattle.msg_reasons.specs.Text.{lookup_line}
use Rattle.msg_reasons.proofs.text.push_lines.Given as goal

-- with the lookups that are left the lines are whole
abbrev pub invariant-loop-lookup : goal.invariant-loop-lookup
invariant-loop-lookup l = AreLines l.image l.lines × (l.text.items ++ flat_map (lookup_line l.image) (all_looked (drop l.lookup-index l.lookups)) ≡ l.fn.text.items ++ flat_map (lookup_line l.image) (all_looked l.lookups))
