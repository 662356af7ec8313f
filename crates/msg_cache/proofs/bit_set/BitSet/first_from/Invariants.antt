use Rattle.std.proofs.Common.{◌-◌, ◌≤◌, length}
use Rattle.msg_cache.specs.BitSet.{HasNone}
use Rattle.msg_cache.proofs.bit_set.BitSet.first_from.Given as goal

abbrev pub invariant-loop-at : goal.invariant-loop-at
invariant-loop-at l = record {
  low : l.from ≤ l.at;
  none : HasNone l.self l.from l.at;
}

abbrev pub decreases-loop-at : goal.decreases-loop-at
decreases-loop-at l = length l.self - l.at
