use Rattle.msg_buckets.proofs.LawLemmas.{read_hit, read_empty, read_other}
use Rattle.msg_buckets.proofs.laws.a_probe_goes_on_by_one_word.Goals as goal

pub returns-clause-hit : goal.returns-clause-hit
returns-clause-hit c sel reads place word positive none same = read_hit sel reads place word none positive same

pub returns-clause-empty : goal.returns-clause-empty
returns-clause-empty c = read_empty

pub returns-clause-other : goal.returns-clause-other
returns-clause-other c = read_other
