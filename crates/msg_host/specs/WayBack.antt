-- Each list of rows has a way back.
use Rattle.std.specs.Prelude.{◌≡◌, ◌≤◌, ◌+◌, ◌++◌, ℕ, List, None, length, take}
use Rattle.msg_names.specs.declared.value.ClassRef.{ClassRef}
use Rattle.msg_tables.specs.History.{log, lookup}
use Rattle.msg_tables.specs.Log.{table_after_all}
use Rattle.msg_tables.specs.Made.{and_as_one}
use Rattle.msg_tables.specs.Refusal.{IsLog}
use Rattle.msg_tables.specs.Rows.{ClassTable}
use Rattle.msg_tables.specs.Several.{refused_from}
use Rattle.msg_tables.specs.Undo.{undo_all}
use Rattle.msg_tables.specs.declared.change.Change.{Change}
use Rattle.msg_runtime.specs.View.{RuntimeView}
use Rattle.msg_host.specs.Config.{IsHostOrigin}
use Rattle.msg_host.specs.Listing.{AreMeant, LackMemoryAt, MakesRows, UndoesRows}
use Rattle.msg_host.specs.declared.config.TheConstants.{HOST_CHANGES}
use Rattle.msg_host.specs.declared.listing.ChangeRow.{ChangeRow}

-- The rows take a runtime back from w to what it was at v. They are accepted, as long as that many
-- changes are. Each lookup is then what it was, and they need no memory.
pub record TakesBack (rows : List ChangeRow) (v w : RuntimeView) : Type 0 where
  pub changes : List Change
  pub meant : AreMeant rows changes
  pub accepted : length (log w.keeper.history).changes + length changes ≤ HOST_CHANGES → refused_from 0 (log w.keeper.history) changes ≡ None
  pub lookups : (c : ClassRef) (s : ℕ) → lookup (and_as_one w.keeper.history changes) c s ≡ lookup v.keeper.history c s
  pub memory : (place : ℕ) → LackMemoryAt rows w place → ⊥

-- The history is one of accepted changes, and began as some config says.
pub record IsHosts (v : RuntimeView) : Type 0 where
  pub origin : IsHostOrigin v.keeper.history.origin
  pub log : IsLog (log v.keeper.history)

-- This holds for the rows that are written when a list of rows is made, directly after it.
abbrev pub EveryListOfRowsHasWayBack : Type 0
EveryListOfRowsHasWayBack = (v w : RuntimeView) (rows undo : List ChangeRow) (n : ℕ) → IsHosts v → MakesRows rows v w → UndoesRows rows v.keeper.history undo n → TakesBack (take n undo) v w

-- Two lists that are made as one go back by the way back of the second, by the tables between them,
-- and then by that of the first.
abbrev pub TwoListsGoBack : Type 0
TwoListsGoBack = (t : ClassTable) (xs ys : List Change) → undo_all t (xs ++ ys) ≡ undo_all (table_after_all t xs) ys ++ undo_all t xs
