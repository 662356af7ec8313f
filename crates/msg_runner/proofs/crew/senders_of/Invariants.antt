use Rattle.std.proofs.Common.{◌≡◌, vec_len}
use Rattle.msg_runner.proofs.crew.senders_of.Given as goal

abbrev pub invariant-loop-number : goal.invariant-loop-number
invariant-loop-number g l = vec_len l.senders ≡ l._number
