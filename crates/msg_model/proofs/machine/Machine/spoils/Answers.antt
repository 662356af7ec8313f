-- if an array is spoiled, some array is
use Rattle.std.proofs.Common.{[], ◌∷◌, ◌<◌, ◌∙◌, sym, ap, subst, length, map}
use Rattle.msg_tables.specs.History.{lookup, and_then}
use Rattle.msg_model.specs.State.{capacity}
use Rattle.msg_model.specs.Steps.{is_spoiled}
use Rattle.msg_model.specs.View.{MachineView, layout_of, state_of}
use Rattle.msg_model.proofs.BelowLemmas.{some_below-true}
use Rattle.msg_model.proofs.WholeLemmas.{array_count}
use Rattle.msg_model.proofs.machine.Machine.spoils.Goals as goal

pub returns-then-is_spoiled : goal.returns-then-is_spoiled
returns-then-is_spoiled c =
    let v = c.args.self.now in
    sym (some_below-true (length (map length v.arrays)) c.loop-array.array
    (λ a. is_spoiled (lookup (and_then v.history (c.args.change.now ∷ []))) (capacity (layout_of v) a) ((state_of v).word a) ((state_of v).standing a))
    (subst (λ n. c.loop-array.array < n) (c.len-array-end.ensures ∙ c.self.inside.arrays.ok.0 ∙ ap (λ (w : MachineView). length w.arrays) c.self.view_is ∙ sym (array_count v.arrays)) c.loop-array-test.true)
    (sym c.is_spoiled.ensures ∙ c.if-is_spoiled.true))
