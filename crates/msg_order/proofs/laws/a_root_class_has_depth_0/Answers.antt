use Rattle.msg_order.proofs.DepthLemmas.{depth-root}
use Rattle.msg_order.proofs.laws.a_root_class_has_depth_0.Goals as goal

pub returns : goal.returns
returns c = depth-root
