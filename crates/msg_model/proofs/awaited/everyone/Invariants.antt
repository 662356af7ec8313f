-- those so far are awaited
use Rattle.std.proofs.Common.{◌≡◌}
use Rattle.msg_model.specs.Steps.{everyone}
use Rattle.msg_model.proofs.awaited.everyone.Given as goal

abbrev pub invariant-loop-sender : goal.invariant-loop-sender
invariant-loop-sender l = l.awaited ≡ everyone l.sender
