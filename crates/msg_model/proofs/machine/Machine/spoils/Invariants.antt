-- no array so far is spoiled
use Rattle.std.proofs.Common.{[], ◌∷◌, ◌≡◌, false}
use Rattle.msg_tables.specs.History.{lookup, and_then}
use Rattle.msg_model.specs.State.{capacity}
use Rattle.msg_model.specs.Steps.{some_below, is_spoiled}
use Rattle.msg_model.specs.View.{layout_of, state_of}
use Rattle.msg_model.proofs.machine.Machine.spoils.Given as goal

abbrev pub invariant-loop-array : goal.invariant-loop-array
invariant-loop-array l =
    some_below l.array (λ a. is_spoiled (lookup (and_then l.fn.self.history (l.change ∷ []))) (capacity (layout_of l.fn.self) a) ((state_of l.fn.self).word a) ((state_of l.fn.self).standing a)) ≡ false
