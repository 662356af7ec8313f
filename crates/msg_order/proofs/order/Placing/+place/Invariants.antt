use Rattle.msg_order.proofs.order.Placing.+place.Given as goal

abbrev pub decreases-place : goal.decreases-place
decreases-place l = l.room
