use Rattle.msg_buckets.proofs.LawLemmas.{plan_has_room}
use Rattle.msg_buckets.proofs.laws.an_array_in_use_has_room.Goals as goal

pub returns : goal.returns
returns c = plan_has_room
