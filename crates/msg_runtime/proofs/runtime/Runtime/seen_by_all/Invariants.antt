use Rattle.std.proofs.Common.{◌≡◌, ◌≤◌, ◌<◌, ◌⊎◌, ℕ, true}
use Rattle.std.specs.Prelude.{slice_index}
use Rattle.msg_model.specs.State.{awaits, size}
use Rattle.msg_runtime.proofs.runtime.Runtime.seen_by_all.Given as goal

-- of the first numbers, those that are out
abbrev pub invariant-loop-number : goal.invariant-loop-number
invariant-loop-number l = record {
  most : l.least ≤ size l.self.keeper.history;
  all : (k : ℕ) → k < l.number → awaits l.self.keeper.given k ≡ true → l.least ≤ slice_index l.self.rested k;
  some : (l.least ≡ size l.self.keeper.history) ⊎ ((k : ℕ) × (k < l.number) × (awaits l.self.keeper.given k ≡ true) × (slice_index l.self.rested k ≡ l.least));
}
