use Rattle.std.proofs.Common.{◌≡◌}
use Rattle.msg_runtime.specs.Inside.{AreTogether}
use Rattle.msg_runtime.specs.Parts.{AreOut, keeper_view, keeper_remembered, keeper_report}
use Rattle.msg_runtime.proofs.runtime.Runtime.sender.Given as goal

abbrev pub invariant-loop-number : goal.invariant-loop-number
invariant-loop-number l = record {
  together : AreTogether l.self-inside;
  arena : l.self-inside.arena.value ≡ l.fn.self.arena;
  keeper : keeper_view l.self-inside.keeper ≡ l.fn.self.keeper;
  remembered : keeper_remembered l.self-inside.keeper ≡ l.fn.self.remembered;
  report : keeper_report l.self-inside.keeper ≡ l.fn.self.report;
  rooms : l.self-inside.tables.rooms ≡ l.fn.self.rooms;
  written : l.self-inside.written ≡ l.fn.self.written;
  rested : l.self-inside.rested.items ≡ l.fn.self.rested;
  out : AreOut l.number l.fn.self.keeper;
}
