use Rattle.msg_buckets.proofs.LawLemmas.{find_in-put_in, reachable-put_in, hit_in-put_in}
use Rattle.msg_buckets.proofs.laws.a_put_adds_one_entry.Goals as goal

pub returns-clause-hit : goal.returns-clause-hit
returns-clause-hit c words sel imp place positive low found = find_in-put_in words sel imp low place positive found

pub returns-clause-reachable : goal.returns-clause-reachable
returns-clause-reachable c = reachable-put_in

pub returns-clause-others : goal.returns-clause-others
returns-clause-others c words sel imp other low reachable differs = hit_in-put_in words sel imp low other reachable differs
