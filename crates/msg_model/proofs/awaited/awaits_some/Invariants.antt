-- none so far is awaited
use Rattle.std.proofs.Common.{◌≡◌, take, false}
use Rattle.std.specs.List.{list_any}
use Rattle.msg_model.proofs.awaited.awaits_some.Given as goal

abbrev pub invariant-loop-awaits : goal.invariant-loop-awaits
invariant-loop-awaits l = list_any (λ b. b) (take l.awaits-index l.awaited) ≡ false
