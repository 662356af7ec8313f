use Rattle.msg_order.proofs.PlacingLemmas.{placed-none}
use Rattle.msg_order.proofs.order.Placing.new.Goals as goal

pub returns : goal.returns
returns c = placed-none c.args.supers.now c.in_ok-vec.field-0.items c.in_ok-with_capacity.field-0.items (c.in_ok-vec.ensures.items_if_clones_equal (λ y e. e)) c.in_ok-with_capacity.ensures.items
