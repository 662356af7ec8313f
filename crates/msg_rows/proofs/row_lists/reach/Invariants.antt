use Rattle.std.proofs.Common.{◌≡◌, ◌<◌, ◌≤◌, ◌+◌, ◌-◌, ◌++◌, [], ℕ, length, replicate}
use Rattle.std.specs.Vec.{vec_capacity}
use Rattle.msg_rows.specs.RowList.{KeepRoom, rows_of}
use Rattle.msg_rows.proofs.row_lists.reach.Given as goal

abbrev pub invariant-loop-alloc : goal.invariant-loop-alloc
invariant-loop-alloc l = record {
  rows : rows_of l.lists.items ≡ rows_of l.initial.lists.items ++ replicate (length l.lists.items - length l.initial.lists.items) [];
  room : vec_capacity l.initial.lists ≤ vec_capacity l.lists;
  keeps : KeepRoom l.initial.lists.items l.lists.items;
  more : length l.initial.lists.items ≤ length l.lists.items;
  few : (n : ℕ) → l.at < n → length l.initial.lists.items ≤ n → length l.lists.items ≤ n;
}

abbrev pub decreases-loop-alloc : goal.decreases-loop-alloc
decreases-loop-alloc l = l.at + 1 - length l.lists.items
