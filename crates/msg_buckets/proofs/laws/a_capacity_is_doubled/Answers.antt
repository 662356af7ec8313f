use Rattle.msg_buckets.proofs.CapacityLemmas.{next_is_capacity, next_is_twice}
use Rattle.msg_buckets.proofs.laws.a_capacity_is_doubled.Goals as goal

pub returns-clause-capacity : goal.returns-clause-capacity
returns-clause-capacity c = next_is_capacity

pub returns-clause-twice : goal.returns-clause-twice
returns-clause-twice c = next_is_twice
