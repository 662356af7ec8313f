-- The fields of `RowLists`.
use Rattle.std.specs.Prelude.{◌≤◌, ◌-◌, List, ◌++◌, length, replicate}
use Rattle.std.specs.Vec.{vec_capacity}
use Rattle.msg_rows.specs.Kept.{no_rows}
use Rattle.msg_rows.specs.RowList.{RowList}
use Rattle.msg_rows.specs.declared.row_lists.RowLists.TheInside.{Inside}

-- the lists that were written, and after them those that weren't
abbrev pub row_lists : Inside → List RowList
row_lists l = l.written.items ++ replicate (l.count - length l.written.items) no_rows

-- no more lists are written than there are, and there is room for all
pub record AreRowLists (l : Inside) : Type 0 where
  pub few : length l.written.items ≤ l.count
  pub room : l.count ≤ vec_capacity l.written
