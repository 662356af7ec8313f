use Rattle.std.proofs.Common.{◌≡◌, ◌≤◌, ◌+◌, ◌++◌, take}
use Rattle.msg_rows.specs.Methods.{method_numbers}
use Rattle.msg_rows.specs.RowList.{KeepsRoom}
use Rattle.msg_rows.proofs.rows.MethodRows.append.Given as goal

abbrev pub invariant-loop-sel : goal.invariant-loop-sel
invariant-loop-sel l = record {
  rows : l.self.rows ≡ l.initial.self.rows ++ method_numbers (take l.sel-index l.methods);
  keeps : KeepsRoom l.initial.self l.self;
  room : l.initial.self.room ≤ l.self.room + l.sel-index;
}
