use Rattle.msg_order.proofs.DepthLemmas.{depth-step}
use Rattle.msg_order.proofs.laws.a_class_is_one_deeper_than_its_superclass.Goals as goal

pub returns : goal.returns
returns c = depth-step
