use Rattle.msg_eval.proofs.PointLemmas.{points_of}
use Rattle.msg_eval.proofs.laws.steps_are_points.Goals as goal

pub returns : goal.returns
returns c = points_of
