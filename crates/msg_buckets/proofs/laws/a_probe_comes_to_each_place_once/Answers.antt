use Rattle.msg_buckets.proofs.PlaceLemmas.{step_of_place}
use Rattle.msg_buckets.proofs.laws.a_probe_comes_to_each_place_once.Goals as goal

pub returns-clause-every : goal.returns-clause-every
returns-clause-every c = step_of_place
