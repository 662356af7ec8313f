use Rattle.msg_eval.proofs.PointLemmas.{one_reply}
use Rattle.msg_eval.proofs.laws.one_history_is_one_reply.Goals as goal

pub returns : goal.returns
returns c = one_reply
