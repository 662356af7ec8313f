use Rattle.std.proofs.Common.{arith}
use Rattle.msg_image.proofs.PartLemmas.{goes_up, stays_below, at_root}
use Rattle.msg_image.proofs.image.superclass_count.Goals as goal

pub overflow_add-depth : goal.overflow_add-depth
overflow_add-depth c =
    let up = goes_up c.args.origin.now.superclasses c.loop-above.at c.in-Some.above c.superclass.result c.requires.listed c.requires.chains c.loop-above.invariant.listed c.superclass.ensures c.in-Some.is in
    let few = stays_below c.args.origin.now.superclasses c.args.class c.requires.chains c.requires.class in
    omega (arith, c.loop-above.invariant.depth, up.deeper, few, c.requires.few)

pub loop-above-smaller : goal.loop-above-smaller
loop-above-smaller c =
    let up = goes_up c.args.origin.now.superclasses c.loop-above.at c.in-Some.above c.superclass.result c.requires.listed c.requires.chains c.loop-above.invariant.listed c.superclass.ensures c.in-Some.is in
    omega (arith, up.deeper)

pub loop-above-preserved : goal.loop-above-preserved
loop-above-preserved c =
    let up = goes_up c.args.origin.now.superclasses c.loop-above.at c.in-Some.above c.superclass.result c.requires.listed c.requires.chains c.loop-above.invariant.listed c.superclass.ensures c.in-Some.is in
    record { listed = up.listed; depth = omega (arith, c.loop-above.invariant.depth, up.deeper) }

pub returns : goal.returns
returns c =
    let root = at_root c.args.origin.now.superclasses c.loop-above.at c.superclass.result c.superclass.ensures c.in_default.is in
    omega (arith, c.loop-above.invariant.depth, root)
