-- Tables that are again what they were.
use Rattle.std.proofs.Common.{◌≡◌, ◌≤◌, ◌*◌, ℕ, List, length, Option, true, ap, sym, arith}
use Rattle.std.specs.List.{list_all}
use Rattle.std.specs.Prelude.{sum_by}
use Rattle.msg_tables.specs.declared.limits.Limits.{Limits}
use Rattle.msg_tables.specs.declared.limits.TheConstants.{MAX_CLASSES}
use Rattle.msg_tables.specs.declared.presence.Presence.{Presence}
use Rattle.msg_tables.specs.Journal.{IsSoundView}
use Rattle.msg_tables.specs.Order.{IsOrder}
use Rattle.msg_tables.specs.Origin.{CountsView, last_imp, are_listed}
use Rattle.msg_rows.specs.RowList.{RowList, rooms_of, rows_of}
use Rattle.msg_tables.specs.View.{TablesView}
use Rattle.msg_tables.proofs.PutLemmas.{length-rows_of}

-- what tables keep of their fields
pub record AreKept (supers : List (Option Presence)) (order : List ℕ) (lists : List RowList) (counts : Option CountsView) (limits : Limits) (rows changes : ℕ) : Type 0 where
  pub counted : rows ≡ sum_by length (rows_of lists)
  pub ordered : IsOrder supers order
  pub many : length lists ≡ 2 * length supers
  pub listed : list_all (are_listed (last_imp counts)) (rows_of lists) ≡ true
  pub few_classes : length supers ≤ MAX_CLASSES
  pub few_rows : rows ≤ limits.rows
  pub few_changes : changes ≤ limits.changes

module _ (old : TablesView) (supers : List (Option Presence)) (order : List ℕ) (listed : ℕ) (lists : List RowList) (counts : Option CountsView) (limits : Limits) (rows changes : ℕ)
    (s : supers ≡ old.supers) (o : order ≡ old.order) (l : rows_of lists ≡ old.lists)
    (rest : old ≡ record { supers = old.supers; order = old.order; listed = listed; lists = old.lists; rooms = old.rooms; counts = counts; limits = limits; row_count = rows; change_count = changes }) where
  pub kept-again : IsSoundView old → AreKept supers order lists counts limits rows changes
  kept-again sound =
      let c : old.counts ≡ counts = ap (λ (t : TablesView). t.counts) rest in
      let m : old.limits ≡ limits = ap (λ (t : TablesView). t.limits) rest in
      let r : old.row_count ≡ rows = ap (λ (t : TablesView). t.row_count) rest in
      let n : old.change_count ≡ changes = ap (λ (t : TablesView). t.change_count) rest in
      record {
        counted = rw (← r, l) sound.counted;
        ordered = rw (s, o) sound.order;
        many = omega (arith, length-rows_of lists, ap length l, ap length s, sound.lists);
        listed = rw (l, ← c) sound.listed;
        few_classes = omega (arith, ap length s, sound.few_classes);
        few_rows = rw (← r, ← m) sound.few_rows;
        few_changes = rw (← n, ← m) sound.few_changes;
      }

  pub view-again : record { supers = supers; order = order; listed = listed; lists = rows_of lists; rooms = rooms_of lists; counts = counts; limits = limits; row_count = rows; change_count = changes } ≡ record old { rooms = rooms_of lists }
  view-again = rw (s, o, l) (ap (λ (t : TablesView). record t { rooms = rooms_of lists }) (sym rest))
