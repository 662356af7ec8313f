-- The keeper of an arena, with class tables at its history.
use Rattle.std.specs.Prelude.{◌≡◌, None, length}
use Rattle.msg_names.specs.declared.value.ClassRef.{ClassRef}
use Rattle.msg_tables.specs.History.{History, empty, log}
use Rattle.msg_tables.specs.Stands.{StandsAt}
use Rattle.msg_tables.specs.View.{TablesView}
use Rattle.msg_cache.specs.Ours.{view, IsOf}
use Rattle.msg_cache.specs.Rule.{live_in}
use Rattle.msg_cache.specs.Views.{ArenaView, TurnView, classes, layout}
use Rattle.msg_cache.specs.declared.keeper.Keeper.{Keeper}

abbrev pub history : Keeper → History
history k = (view k).history

-- a class reference has no live array
abbrev pub HasNoArray : ArenaView → Keeper → ClassRef → Type 0
HasNoArray a k c = live_in (layout a) (view k).words c ≡ None

-- the keeper is of the arena, which has two classes, and the tables are at this history
pub record Together (a : ArenaView) (k : Keeper) (t : TablesView) (h : History) : Type 0 where
  pub keeper : IsOf a k
  pub tables : StandsAt t (log h)
  pub supers : length t.supers ≡ 2
  pub two : classes a ≡ 2

abbrev pub Begin : ArenaView → Keeper → TablesView → Type 0
Begin a k t = Together a k t (empty a.key.origin)

-- the turn is of the arena, and the tables are at its history
abbrev pub IsDesk : ArenaView → Keeper → TablesView → TurnView → Type 0
IsDesk a k t turn = Together a k t turn.history × (turn.table ≡ a.table)
