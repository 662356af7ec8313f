use Rattle.std.proofs.Common.{subst, sym, rules}
use Rattle.std.specs.Prelude.{slice_set, true}
use Rattle.msg_order.specs.Order.{ArePlaced}
use Rattle.msg_order.proofs.PlacingLemmas.{placed-more}
use Rattle.msg_order.proofs.order.Placing.push.Goals as goal

pub returns-in_ok-push-clause-placed : goal.returns-in_ok-push-clause-placed
returns-in_ok-push-clause-placed c =
    subst (ArePlaced c.args.supers.now (slice_set c.args.self.now.marks.items c.args.class true)) (sym c.in_ok-push.ensures.items)
    (placed-more c.args.supers.now c.args.self.now.marks.items c.args.self.now.order.items c.args.class c.requires.placed c.requires.class (search rules) c.requires.above)
