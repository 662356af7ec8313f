use Rattle.msg_buckets.proofs.CapacityLemmas.{capacity_is_power, power_is_capacity, listed_is_capacity, capacity_bounds}
use Rattle.msg_buckets.proofs.laws.a_capacity_is_a_power_of_two.Goals as goal

pub returns-clause-power : goal.returns-clause-power
returns-clause-power c = capacity_is_power

pub returns-clause-each : goal.returns-clause-each
returns-clause-each c = power_is_capacity

pub returns-clause-least : goal.returns-clause-least
returns-clause-least c n h = (capacity_bounds n h).0

pub returns-clause-most : goal.returns-clause-most
returns-clause-most c n h = (capacity_bounds n h).1

pub returns-clause-listed : goal.returns-clause-listed
returns-clause-listed c = listed_is_capacity
