-- the arrays so far
use Rattle.std.proofs.Common.{◌≡◌, take, map, replicate}
use Rattle.msg_model.proofs.open.empty_arrays.Given as goal

abbrev pub invariant-loop-capacity : goal.invariant-loop-capacity
invariant-loop-capacity l = l.arrays.items ≡ map (λ n. replicate n 0) (take l.capacity-index l.capacities)
