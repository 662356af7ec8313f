use Rattle.std.proofs.Common.{◌≤◌, take}
use Rattle.std.specs.Vec.{vec_capacity}
use Rattle.msg_tables.specs.View.{IsWithinRoom}
use Rattle.msg_rows.specs.RowList.{HaveGrown}
use Rattle.msg_tables.specs.Making.{AreHeld, IsMade}
use Rattle.msg_tables.proofs.tables.Tables.apply_each.Given as goal

abbrev pub invariant-loop-place : goal.invariant-loop-place
invariant-loop-place g l = record {
  made : IsMade (take l.place (g.L.ChangeList.changes l.changes)) l.journal.items l.initial.self l.self;
  held : AreHeld (take l.place (g.L.ChangeList.changes l.changes)) l.initial.self l.self;
  within : IsWithinRoom l.self;
  room : vec_capacity l.initial.journal ≤ vec_capacity l.journal;
  grown : HaveGrown l.initial.self.rooms l.self.rooms;
}
