use Rattle.std.proofs.Common.{◌<◌, length, map, sym, subst}
use Rattle.msg_model.specs.State.{capacity}
use Rattle.msg_model.specs.View.{MachineView, layout_of}
use Rattle.msg_model.proofs.EffectLemmas.{word_becomes}
use Rattle.msg_model.proofs.machine.Machine.store.Goals as goal

pub returns : goal.returns
returns c =
    rw (← c.self.view_is)
    (word_becomes _ c.self.invariant.whole c.args.array c.args.place c.args.word c.index_mut.result.now c.store.new.self
    (subst (λ (v : MachineView). c.args.array < length (map length v.arrays)) (sym c.self.view_is) c.requires.array)
    (subst (λ (v : MachineView). c.args.place < capacity (layout_of v) c.args.array) (sym c.self.view_is) c.requires.place)
    c.index_mut.ensures.value c.store.ensures)
