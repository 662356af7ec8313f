use Rattle.std.proofs.Common.{◌≡◌, length, take}
use Rattle.msg_tables.specs.History.{BeginsWith}
use Rattle.msg_cache.specs.Views.{IsSenderOf, layout}
use Rattle.msg_reader.specs.Kept.{LoadsMore}
use Rattle.msg_reader.specs.Notes.{AreNotesOf, StayStamped}
use Rattle.msg_reader.specs.Several.{AreFoundAt, IsNotedOrAt, IsOfLast, KeepOthersOfAll}
use Rattle.msg_runtime.specs.Calls.{KeepsRoom}
use Rattle.msg_runtime.proofs.runtime.Runtime.answer_all.Given as goal

-- The reader has seen the history. Where it has seen no more, the first lookups are found there.
abbrev pub invariant-loop-place : goal.invariant-loop-place
invariant-loop-place g l = record {
  arena : l.self.arena ≡ l.fn.self.arena;
  history : l.self.keeper.history ≡ l.fn.self.keeper.history;
  remembered : l.self.remembered ≡ l.fn.self.remembered;
  room : KeepsRoom l.fn.self l.self;
  rested : l.self.rested ≡ l.fn.self.rested;
  reader : IsSenderOf l.fn.self.arena l.reader;
  number : l.reader.sender.number ≡ l.fn.reader.sender.number;
  begins : BeginsWith l.reader.sender.front l.fn.self.keeper.history;
  notes : AreNotesOf l.reader.sender.front l.notes;
  stamped : StayStamped (layout l.fn.self.arena) l.fn.notes l.notes;
  stamps : LoadsMore l.fn.reader.sender l.reader.sender;
  others : KeepOthersOfAll l.fn.notes l.notes (g.L.LookupList.lookups l.lookups);
  noted : IsOfLast l.place (IsNotedOrAt l.fn.self.keeper.history l.notes l.fn.reader.sender l.reader.sender) (g.L.LookupList.lookups l.lookups) l.imps;
  places : length l.imps ≡ length (g.L.LookupList.lookups l.lookups);
  found : BeginsWith l.fn.self.keeper.history l.reader.sender.front
      → AreFoundAt l.fn.self.keeper.history (take l.place (g.L.LookupList.lookups l.lookups)) (take l.place l.imps);
}
