use Rattle.std.proofs.Common.{◌<◌, sym, subst}
use Rattle.msg_tables.specs.Origin.{class_total}
use Rattle.msg_model.specs.View.{MachineView}
use Rattle.msg_model.proofs.EffectLemmas.{live_set}
use Rattle.msg_model.proofs.machine.Machine.set_live.Goals as goal

pub returns : goal.returns
returns c =
    rw (c.slot.ensures, ← c.self.view_is)
    (live_set _ c.self.invariant.whole c.args.class c.args.array (subst (λ (v : MachineView). c.args.class.class < class_total v.history.origin) (sym c.self.view_is) c.requires.class))
