-- The fields of a runtime.
use Rattle.std.specs.Prelude.{◌≡◌}
use Rattle.msg_tables.specs.Origin.{class_total}
use Rattle.msg_tables.specs.History.{log}
use Rattle.msg_tables.specs.Stands.{StandsAt}
use Rattle.msg_runtime.specs.Parts.{AreOut, IsKeeperOf, keeper_history, keeper_view, keeper_remembered, keeper_report}
use Rattle.msg_runtime.specs.Resting.{AreRested}
use Rattle.msg_runtime.specs.View.{RuntimeView}
use Rattle.msg_runtime.specs.declared.runtime.Runtime.TheInside.{Inside}

-- the contracts' view of a runtime
abbrev pub view_of : Inside → RuntimeView
view_of r = record { arena = r.arena.value; keeper = keeper_view r.keeper; remembered = keeper_remembered r.keeper; report = keeper_report r.keeper; rooms = r.tables.rooms; written = r.written; rested = r.rested.items }

-- the invariant of runtimes
pub record AreTogether (r : Inside) : Type 0 where
  pub keeper : IsKeeperOf r.arena.value r.keeper
  -- the tables are at the keeper's history, which is of the arena's origin
  pub tables : StandsAt r.tables (log (keeper_history r.keeper))
  pub origin : (keeper_history r.keeper).origin ≡ r.arena.value.key.origin
  pub classes : r.classes ≡ class_total (keeper_history r.keeper).origin
  pub rests : AreRested (keeper_view r.keeper) r.rested.items
  pub full : AreOut r.full (keeper_view r.keeper)
