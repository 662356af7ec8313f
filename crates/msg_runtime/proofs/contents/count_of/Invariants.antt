use Rattle.std.proofs.Common.{◌≡◌, ◌+◌, length}
use Rattle.msg_runtime.proofs.contents.count_of.Given as goal

-- what is counted, and what is left to visit
abbrev pub invariant-loop-class : goal.invariant-loop-class
invariant-loop-class l = l.count + length l._class-iterator ≡ length l.fn.walk
