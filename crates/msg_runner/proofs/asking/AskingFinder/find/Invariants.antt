use Rattle.std.proofs.Common.{◌≡◌, length}
use Rattle.msg_tables.specs.History.{BeginsWith}
use Rattle.msg_runner.proofs.asking.AskingFinder.find.Given as goal

-- the count is that of what the sender has seen, which goes on from what it had seen
abbrev pub invariant-loop-try : goal.invariant-loop-try
invariant-loop-try g l = record {
  begins : BeginsWith l.self.sender.sender.seen.front l.fn.self.sender.sender.seen.front;
  count : l.before ≡ length l.self.sender.sender.seen.front.changes;
}
