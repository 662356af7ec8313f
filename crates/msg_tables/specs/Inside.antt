-- The fields of `Tables`.
use Rattle.std.specs.Prelude.{◌≡◌, ◌≤◌, ◌*◌, true, length, sum_by}
use Rattle.std.specs.List.{list_all}
use Rattle.std.specs.Vec.{vec_capacity}
use Rattle.msg_tables.specs.declared.limits.TheConstants.{MAX_CLASSES}
use Rattle.msg_tables.specs.Order.{IsOrder}
use Rattle.msg_tables.specs.Preorder.{HavePreorder}
use Rattle.msg_rows.specs.RowList.{rooms_of, rows_of}
use Rattle.msg_tables.specs.View.{TablesView}
use Rattle.msg_tables.specs.Origin.{last_imp, are_listed}
use Rattle.msg_tables.specs.declared.tables.Tables.TheInside.{Inside}

-- the contracts' view of tables
abbrev pub view_of : Inside → TablesView
view_of t = record {
  supers = t.supers.items;
  order = t.order.items;
  listed = t.listed;
  lists = rows_of t.lists;
  rooms = rooms_of t.lists;
  counts = t.counts;
  limits = t.limits;
  row_count = t.row_count;
  change_count = t.change_count;
}

-- the invariant of tables
pub record AreSoundTables (t : Inside) : Type 0 where
  -- the classes that are present are in an order in which each comes after its superclass
  pub order : IsOrder t.supers.items t.order.items
  -- and there is room for the others
  pub room : length t.supers.items ≤ vec_capacity t.order
  -- and they are in an order in which those below a class come right after it
  pub preorder : HavePreorder t.supers.items t.preorder.depths t.preorder.nexts
  -- there is a list for each class reference
  pub lists : length t.lists ≡ 2 * length t.supers.items
  pub listed : list_all (are_listed (last_imp t.counts)) (rows_of t.lists) ≡ true
  -- and the number of rows in all of them is counted
  pub counted : t.row_count ≡ sum_by length (rows_of t.lists)
  pub few_classes : length t.supers.items ≤ MAX_CLASSES
  pub few_rows : t.row_count ≤ t.limits.rows
  pub few_changes : t.change_count ≤ t.limits.changes
