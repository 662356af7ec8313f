use Rattle.std.proofs.Common.{arith}
use Rattle.msg_tables.proofs.DisposedLemmas.{stands-at}
use Rattle.msg_tables.proofs.apply.place_in.Goals as goal

pub unreachable-requires : goal.unreachable-requires
unreachable-requires c = let (place, at) = stands-at c.args.order.now c.args.class c.requires in c.loop-back.invariant place (omega (arith, c.loop-back-test.false)) at
