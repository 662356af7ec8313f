use Rattle.msg_order.proofs.ExistLemmas.{order_exists}
use Rattle.msg_order.proofs.laws.classes_have_an_order.Goals as goal

pub returns : goal.returns
returns c = order_exists
