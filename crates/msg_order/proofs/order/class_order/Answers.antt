use Rattle.std.proofs.Common.{sym, arith}
use Rattle.msg_order.proofs.DepthLemmas.{endless, ordered-ends}
use Rattle.msg_order.proofs.PlacingLemmas.{order-whole}
use Rattle.msg_order.proofs.order.class_order.Goals as goal

pub returns-then-not-branch-clause-ends : goal.returns-then-not-branch-clause-ends
returns-then-not-branch-clause-ends c = sym (endless c.args.supers.now c.loop-class.class c.loop-class-test.true (c.in_ok-place.ensures.endless c.if-not-branch.true))

pub returns-clause-ends : goal.returns-clause-ends
returns-clause-ends c = sym (ordered-ends c.args.supers.now c.loop-class.placing.order.items (order-whole c.args.supers.now c.loop-class.placing.marks.items c.loop-class.placing.order.items c.loop-class.invariant.placed (λ k inside. c.loop-class.invariant.all k (omega (arith, inside, c.loop-class-test.false)))))

pub returns-clause-order : goal.returns-clause-order
returns-clause-order c = order-whole c.args.supers.now c.loop-class.placing.marks.items c.loop-class.placing.order.items c.loop-class.invariant.placed (λ k inside. c.loop-class.invariant.all k (omega (arith, inside, c.loop-class-test.false)))
