use Rattle.std.proofs.Common.{◌≡◌, ◌≤◌, ◌+◌, ◌++◌, length}
use Rattle.std.specs.Prelude.{reverse}
use Rattle.std.specs.Slice.Iter.{iter_rest}
use Rattle.std.specs.Vec.{vec_capacity}
use Rattle.msg_tables.specs.Journal.{added_all}
use Rattle.msg_rows.specs.Methods.{method_numbers}
use Rattle.msg_tables.proofs.noting.note_added.Given as goal

abbrev pub invariant-loop-sel : goal.invariant-loop-sel
invariant-loop-sel l = record {
  can : (goal.iterator-loop-sel).can_next l.sel-iterator;
  finite : (goal.iterator-loop-sel).is_finite l.sel-iterator;
  items : l.journal.items ++ added_all l.class (reverse (method_numbers (iter_rest l.sel-iterator.iter))) ≡ l.initial.journal.items ++ added_all l.class (reverse (method_numbers l.methods));
  room : length l.journal.items + length (iter_rest l.sel-iterator.iter) ≤ vec_capacity l.journal;
  grown : vec_capacity l.initial.journal ≤ vec_capacity l.journal;
}
