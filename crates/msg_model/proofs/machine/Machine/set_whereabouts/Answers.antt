use Rattle.std.proofs.Common.{◌<◌, length, sym, subst}
use Rattle.msg_model.specs.View.{MachineView}
use Rattle.msg_model.proofs.EffectLemmas.{whereabouts_set}
use Rattle.msg_model.proofs.machine.Machine.set_whereabouts.Goals as goal

pub returns : goal.returns
returns c = rw (← c.self.view_is) (whereabouts_set _ c.self.invariant.whole c.args.sender c.args.whereabouts (subst (λ (v : MachineView). c.args.sender < length v.whereabouts) (sym c.self.view_is) c.requires.sender))
