use Rattle.msg_eval.proofs.PointLemmas.{to_answers, of_answers}
use Rattle.msg_eval.proofs.laws.points_have_answers.Goals as goal

pub returns : goal.returns
returns c = λ send points reply. (to_answers send 0 points reply, of_answers send 0 points reply)
