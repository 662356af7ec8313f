use Rattle.msg_buckets.proofs.PutLemmas.{find_in-fresh}
use Rattle.msg_buckets.proofs.laws.an_empty_array_is_reachable.Goals as goal

pub returns-clause-first : goal.returns-clause-first
returns-clause-first c = find_in-fresh
