-- the classes of the order are placed one by one
use Rattle.std.proofs.Common.{◌≡◌, ◌<◌, ◌≤◌, ◌+◌, ℕ, List, length, Option, Some, None, sym, ap, subst, arith}
use Rattle.std.specs.Prelude.{IfSome, is_some, slice_index_or}
use Rattle.msg_tables.specs.declared.limits.TheConstants.{MAX_CLASSES}
use Rattle.msg_tables.specs.Preorder.{depth_at, depths_with}
use Rattle.msg_tables.proofs.OrderLemmas.{present-inside}
use Rattle.msg_tables.proofs.PreorderLemmas.{element-at}
use Rattle.msg_tables.proofs.PlacedLemmas.{PlacedTo, placed-begin, placed-on, placed-end, above-ready}
use Rattle.msg_tables.proofs.preorder.place_all.Goals as goal

within : (depths : List ℕ) (nexts : List (Option ℕ)) (n : ℕ) (o : Option ℕ) → n ≤ MAX_CLASSES → IfSome o (λ d. (d < length depths) × (d < length nexts) × (depth_at depths d < n)) → IfSome o (λ d. (d < length depths) × (d < length nexts) × (depth_at depths d < MAX_CLASSES))
within depths nexts n None few ready = tt
within depths nexts n (Some d) few ready = (ready.0, ready.1, omega (arith, ready.2, few))

pub loop-class-init : goal.loop-class-init
loop-class-init c = placed-begin c.args.supers.now c.args.order.now c.args.preorder.now.depths c.args.preorder.now.nexts c.requires.depths c.requires.nexts

pub place-requires-clause-depths : goal.place-requires-clause-depths
place-requires-clause-depths c =
    let inside = present-inside c.args.supers.now (slice_index_or c.args.order.now c.loop-class.class-index 0) (ap is_some c.superclass_in.ensures) in
    omega (arith, inside, c.loop-class.invariant.depth_room)

pub place-requires-clause-nexts : goal.place-requires-clause-nexts
place-requires-clause-nexts c =
    let inside = present-inside c.args.supers.now (slice_index_or c.args.order.now c.loop-class.class-index 0) (ap is_some c.superclass_in.ensures) in
    omega (arith, inside, c.loop-class.invariant.next_room)

pub place-requires-clause-above : goal.place-requires-clause-above
place-requires-clause-above c =
    let depths = c.loop-class.preorder.depths in
    let nexts = c.loop-class.preorder.nexts in
    within depths nexts (length c.args.supers.now) c.superclass_in.result c.requires.few
    (above-ready c.args.supers.now c.args.order.now c.requires.order depths nexts c.loop-class.class-index (slice_index_or c.args.order.now c.loop-class.class-index 0) c.superclass_in.result c.loop-class.invariant (element-at c.args.order.now c.loop-class.class-index c.loop-class-test.true) c.superclass_in.ensures)

pub loop-class-preserved : goal.loop-class-preserved
loop-class-preserved c =
    let depths = c.loop-class.preorder.depths in
    let nexts = c.loop-class.preorder.nexts in
    let k = slice_index_or c.args.order.now c.loop-class.class-index 0 in
    let on = placed-on c.args.supers.now c.args.order.now c.requires.order depths nexts c.loop-class.class-index k c.superclass_in.result c.loop-class.invariant (element-at c.args.order.now c.loop-class.class-index c.loop-class-test.true) c.superclass_in.ensures in
    subst (λ ds. PlacedTo c.args.supers.now c.args.order.now ds c.place.new.self.nexts (c.loop-class.class-index + 1)) (sym c.place.ensures.depths)
    (subst (λ ns. PlacedTo c.args.supers.now c.args.order.now (depths_with depths k c.superclass_in.result) ns (c.loop-class.class-index + 1)) (sym c.place.ensures.nexts) on)

pub returns : goal.returns
returns c =
    let end : c.loop-class.class-index ≡ length c.args.order.now = omega (arith, c.loop-class-test.false, c.loop-class.auto.class-index-end) in
    placed-end c.args.supers.now c.args.order.now c.loop-class.preorder.depths c.loop-class.preorder.nexts c.requires.order
    (subst (λ n. PlacedTo c.args.supers.now c.args.order.now c.loop-class.preorder.depths c.loop-class.preorder.nexts n) end c.loop-class.invariant)
