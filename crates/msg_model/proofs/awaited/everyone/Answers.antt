-- one more sender
use Rattle.std.proofs.Common.{set, true, ◌∙◌, ap, arith}
use Rattle.msg_model.proofs.EffectLemmas.{everyone_step}
use Rattle.msg_model.proofs.awaited.everyone.Goals as goal

pub loop-sender-preserved : goal.loop-sender-preserved
loop-sender-preserved c =
    let few = c.requires in
    let lt = c.loop-sender-test.true in
    ap (λ bs. set bs c.loop-sender.sender true) c.loop-sender.invariant ∙ everyone_step c.loop-sender.sender (omega (arith, few, lt))
