use Rattle.std.proofs.Common.{◌≡◌}
use Rattle.msg_rows.specs.RowList.{KeepsRoom, without_last}
use Rattle.msg_rows.proofs.indexed_rows.IndexedRows.shorten.Given as goal

abbrev pub invariant-loop-step : goal.invariant-loop-step
invariant-loop-step l = record {
  rows : l.self.rows ≡ without_last l._step l.initial.self.rows;
  keeps : KeepsRoom l.initial.self l.self;
}
