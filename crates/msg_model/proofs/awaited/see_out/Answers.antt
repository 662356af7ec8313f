-- one more array
use Rattle.msg_model.specs.Steps.{seen_out}
use Rattle.msg_model.proofs.EffectLemmas.{map_step}
use Rattle.msg_model.proofs.awaited.see_out.Goals as goal

pub loop-array-preserved : goal.loop-array-preserved
loop-array-preserved c = map_step (seen_out c.args.sender) c.args.standings.now c.loop-array.standings c.loop-array.array c.seen_out.result _ c.loop-array-test.true c.loop-array.invariant c.seen_out.ensures
