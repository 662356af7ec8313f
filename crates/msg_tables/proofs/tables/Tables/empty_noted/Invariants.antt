use Rattle.std.proofs.Common.{◌≤◌, ◌+◌, length}
use Rattle.std.specs.Vec.{vec_capacity}
use Rattle.msg_tables.specs.Journal.{TakesRows}
use Rattle.msg_tables.specs.View.{kept}
use Rattle.msg_tables.proofs.tables.Tables.empty_noted.Given as goal

abbrev pub invariant-loop-sel : goal.invariant-loop-sel
invariant-loop-sel l = record {
  takes : TakesRows l.class l.initial.journal.items l.journal.items l.initial.self l.self;
  room : length l.journal.items + length (kept l.self.lists l.class) ≤ vec_capacity l.journal;
  grown : vec_capacity l.initial.journal ≤ vec_capacity l.journal;
}

abbrev pub decreases-loop-sel : goal.decreases-loop-sel
decreases-loop-sel l = length (kept l.self.lists l.class)
