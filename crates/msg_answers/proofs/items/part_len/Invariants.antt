use Rattle.std.proofs.Common.{◌≤◌, ◌-◌, length, map, take}
use Rattle.msg_image.specs.Plain.{item_parts}
use Rattle.msg_answers.specs.Serving.{AllSends}
use Rattle.msg_answers.proofs.items.part_len.Given as goal

abbrev pub invariant-loop-count : goal.invariant-loop-count
invariant-loop-count l = (l.count ≤ length l.items) × AllSends (map item_parts (take l.count l.items))

abbrev pub decreases-loop-count : goal.decreases-loop-count
decreases-loop-count l = length l.items - l.count
