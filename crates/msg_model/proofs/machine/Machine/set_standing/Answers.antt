use Rattle.std.proofs.Common.{◌<◌, length, map, sym, subst}
use Rattle.msg_model.specs.View.{MachineView}
use Rattle.msg_model.proofs.EffectLemmas.{standings_set}
use Rattle.msg_model.proofs.machine.Machine.set_standing.Goals as goal

pub returns : goal.returns
returns c = rw (← c.self.view_is) (standings_set _ c.self.invariant.whole c.args.array c.args.standing (subst (λ (v : MachineView). c.args.array < length (map length v.arrays)) (sym c.self.view_is) c.requires.array))
