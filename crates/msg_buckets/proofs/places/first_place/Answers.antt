use Rattle.std.proofs.Common.{arith, ◌∙◌, ap, ◌%◌}
use Rattle.std.proofs.lemmas.Nat.{mod_below}
use Rattle.msg_buckets.proofs.CapacityLemmas.{capacity_bounds}
use Rattle.msg_buckets.proofs.PlaceLemmas.{and_capacity}
use Rattle.msg_buckets.proofs.places.first_place.Goals as goal

pub overflow_sub-result : goal.overflow_sub-result
overflow_sub-result c = omega (arith, capacity_bounds c.args.capacity c.requires)

pub returns-clause-first : goal.returns-clause-first
returns-clause-first c = and_capacity c.number.result c.args.capacity c.requires ∙ ap (λ n. n % c.args.capacity) (omega (arith, c.number.ensures.number))

pub returns-clause-within : goal.returns-clause-within
returns-clause-within c = rw (and_capacity c.number.result c.args.capacity c.requires) (mod_below c.number.result c.args.capacity (omega (arith, capacity_bounds c.args.capacity c.requires)))
