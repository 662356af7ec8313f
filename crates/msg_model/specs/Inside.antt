-- The fields of `Machine`.
use Rattle.std.specs.Prelude.{map, [], ◌∷◌}
use Rattle.msg_tables.specs.History.{log}
use Rattle.msg_tables.specs.Stands.{StandsAt}
use Rattle.msg_model.specs.declared.machine.Machine.TheInside.{Inside}
use Rattle.msg_model.specs.View.{MachineView, IsWhole}

-- the contracts' view of a machine
abbrev pub view_of : Inside → MachineView
view_of i = record {
  history = record { origin = i.origin.value; changes = map (λ x. x ∷ []) i.changes.items };
  live = i.live.items;
  arrays = i.arrays.items;
  standings = i.standings.items;
  whereabouts = i.whereabouts.items;
}

-- the invariant of a machine
pub record IsSoundMachine (i : Inside) : Type 0 where
  pub whole : IsWhole (view_of i)
  -- the tables are those of the history
  pub tables : StandsAt i.tables (log (view_of i).history)
