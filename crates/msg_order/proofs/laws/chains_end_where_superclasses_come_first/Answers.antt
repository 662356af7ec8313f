use Rattle.msg_order.proofs.DepthLemmas.{listed-ends}
use Rattle.msg_order.proofs.laws.chains_end_where_superclasses_come_first.Goals as goal

pub returns : goal.returns
returns c = listed-ends
