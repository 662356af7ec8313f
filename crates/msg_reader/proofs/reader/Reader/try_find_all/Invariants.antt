use Rattle.std.proofs.Common.{◌≡◌, ◌≤◌, ◌+◌, length, take}
use Rattle.msg_cache.specs.Views.{IsSenderOf, layout}
use Rattle.msg_tables.specs.History.{BeginsWith}
use Rattle.msg_reader.specs.Cost.{ProbesAtMost}
use Rattle.msg_reader.specs.Kept.{LoadsMore}
use Rattle.msg_reader.specs.Notes.{AreNotesOf, StayStamped}
use Rattle.msg_reader.specs.Several.{AreFoundAt, IsNotedAmong, IsOfLast, KeepOthersOfAll}
use Rattle.msg_reader.proofs.SeveralLemmas.{StayUnlessLacking}
use Rattle.msg_reader.proofs.reader.Reader.try_find_all.Given as goal

-- the first lookups are found at what was seen when the changes were counted
abbrev pub invariant-loop-place : goal.invariant-loop-place
invariant-loop-place g l = record {
  reader : IsSenderOf l.arena l.self;
  begins : BeginsWith l.self.sender.front l.initial.self.sender.front;
  notes : AreNotesOf l.self.sender.front l.notes;
  stamped : StayStamped (layout l.arena) l.fn.notes l.notes;
  room : length l.imps ≡ length l.fn.imps;
  found : AreFoundAt l.initial.self.sender.front (take l.place (g.L.LookupList.lookups l.lookups)) (take l.place l.imps);
  stamps : LoadsMore l.fn.self.sender l.self.sender;
  most : l.place ≤ length (g.L.LookupList.lookups l.lookups);
  probed : ProbesAtMost l.place l.fn.self.sender l.self.sender;
  looks : l.self.sender.looks ≡ l.fn.self.sender.looks + 1;
  others : KeepOthersOfAll l.fn.notes l.notes (g.L.LookupList.lookups l.lookups);
  noted : IsOfLast l.place (IsNotedAmong l.notes l.fn.self.sender l.self.sender) (g.L.LookupList.lookups l.lookups) l.imps;
  stays : StayUnlessLacking l.fn.notes (g.L.LookupList.lookups l.lookups) l.fn.self.sender l.self.sender l.notes;
}
