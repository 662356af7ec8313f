use Rattle.std.proofs.Common.{arith}
use Rattle.msg_reasons.proofs.MovingLemmas.{comes_reached}
use Rattle.msg_reasons.proofs.moving.Moving.move_to.Goals as goal

pub returns-after-loop-self-clause-moved : goal.returns-after-loop-self-clause-moved
returns-after-loop-self-clause-moved c = λ h at.
    let (g, here, same) = c.loop-self.invariant.way h at in
    comes_reached c.args.version c.args.self.now c.loop-self.self h g here same (omega (arith, c.loop-self-test.false))
