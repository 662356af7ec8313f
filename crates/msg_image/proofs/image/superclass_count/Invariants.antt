use Rattle.std.proofs.Common.{◌≡◌, ◌<◌, ◌+◌, length}
use Rattle.msg_order.specs.Superclasses.{depth_of}
use Rattle.msg_image.proofs.image.superclass_count.Given as goal

abbrev pub invariant-loop-above : goal.invariant-loop-above
invariant-loop-above l = record {
  listed : l.at < length l.origin.superclasses;
  depth : l.depth + depth_of l.origin.superclasses l.at ≡ depth_of l.origin.superclasses l.class;
}

abbrev pub decreases-loop-above : goal.decreases-loop-above
decreases-loop-above l = depth_of l.origin.superclasses l.at
