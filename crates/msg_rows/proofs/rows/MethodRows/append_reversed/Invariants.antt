use Rattle.std.proofs.Common.{◌≡◌, ◌≤◌, ◌++◌, length}
use Rattle.std.specs.Prelude.{reverse}
use Rattle.std.specs.Slice.Iter.{iter_rest}
use Rattle.msg_rows.specs.Methods.{method_numbers}
use Rattle.msg_rows.specs.RowList.{KeepsRoom}
use Rattle.msg_rows.proofs.rows.MethodRows.append_reversed.Given as goal

abbrev pub invariant-loop-sel : goal.invariant-loop-sel
invariant-loop-sel l = record {
  can : (goal.iterator-loop-sel).can_next l.sel-iterator;
  finite : (goal.iterator-loop-sel).is_finite l.sel-iterator;
  rows : l.self.rows ++ reverse (method_numbers (iter_rest l.sel-iterator.iter)) ≡ l.initial.self.rows ++ reverse (method_numbers l.methods);
  keeps : KeepsRoom l.initial.self l.self;
  room : length (iter_rest l.sel-iterator.iter) ≤ l.self.room;
}
