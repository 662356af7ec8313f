use Rattle.std.proofs.Common.{◌≡◌, ◌≤◌, false, length}
use Rattle.std.specs.Vec.{vec_capacity}
use Rattle.msg_tables.specs.Journal.{CanAllGoBack, lists_before, supers_before, order_before, before_all}
use Rattle.msg_rows.specs.RowList.{KeepRoom, rows_of}
use Rattle.msg_tables.proofs.take_back.unwrite_all.Given as goal

-- what is left to be taken back gives the same as all of it did
abbrev pub invariant-loop-entry : goal.invariant-loop-entry
invariant-loop-entry l = record {
  supers : before_all supers_before l.journal.items l.supers.items ≡ before_all supers_before l.initial.journal.items l.initial.supers.items;
  order : before_all order_before l.journal.items l.order.items ≡ before_all order_before l.initial.journal.items l.initial.order.items;
  lists : before_all lists_before l.journal.items (rows_of l.lists) ≡ before_all lists_before l.initial.journal.items (rows_of l.initial.lists);
  room : vec_capacity l.order ≡ vec_capacity l.initial.order;
  back : CanAllGoBack l.journal.items (vec_capacity l.order) l.lists l.order.items;
  keeps : KeepRoom l.initial.lists l.lists;
  journal : vec_capacity l.initial.journal ≤ vec_capacity l.journal;
  kept : l.made ≡ false → l.supers.items ≡ l.initial.supers.items;
}

abbrev pub decreases-loop-entry : goal.decreases-loop-entry
decreases-loop-entry l = length l.journal.items
