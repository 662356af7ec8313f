use Rattle.msg_order.proofs.CycleLemmas.{above-itself, endless-above}
use Rattle.msg_order.proofs.laws.a_chain_without_end_is_a_class_above_itself.Goals as goal

pub returns-clause-above : goal.returns-clause-above
returns-clause-above c = above-itself

pub returns-clause-cycle : goal.returns-clause-cycle
returns-clause-cycle c = endless-above
