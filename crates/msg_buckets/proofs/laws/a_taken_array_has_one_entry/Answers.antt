use Rattle.msg_buckets.proofs.LawLemmas.{find_in-taken, occupied_in-taken, hit_in-taken}
use Rattle.msg_buckets.proofs.laws.a_taken_array_has_one_entry.Goals as goal

pub returns-clause-one : goal.returns-clause-one
returns-clause-one c capacity sel imp some positive low = occupied_in-taken capacity sel imp low some positive

pub returns-clause-hit : goal.returns-clause-hit
returns-clause-hit c capacity sel imp some positive low = find_in-taken capacity sel imp low some positive

pub returns-clause-others : goal.returns-clause-others
returns-clause-others c capacity sel imp other low = hit_in-taken capacity sel imp low other
