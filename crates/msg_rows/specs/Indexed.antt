-- The fields of `IndexedRows`.
use Rattle.std.specs.Prelude.{◌≡◌, ◌<◌, ◌≤◌, ◌-◌, min, length, vec_len}
use Rattle.std.specs.Vec.{vec_capacity}
use Rattle.msg_rows.specs.Buckets.{AreLinked}
use Rattle.msg_rows.specs.Methods.{method_numbers}
use Rattle.msg_rows.specs.RowList.{RowList}
use Rattle.msg_rows.specs.declared.indexed_rows.IndexedRows.TheInside.{Inside}

-- the contracts' view of the methods of a class reference
abbrev pub row_list : Inside → RowList
row_list i = record {
  rows = method_numbers i.rows.items;
  room = min (min (vec_capacity i.rows - vec_len i.rows) (vec_capacity i.older - vec_len i.older)) (length i.newest.items - length i.rows.items);
}

-- each selector's last row is found in its bucket
pub record IsIndexed (i : Inside) : Type 0 where
  pub some : 0 < length i.newest.items
  -- no more rows than buckets
  pub wide : length i.rows.items ≤ length i.newest.items
  pub each : length i.older.items ≡ length i.rows.items
  pub linked : AreLinked (method_numbers i.rows.items) (length i.rows.items) i.older.items i.newest.items
