-- The keeper of an arena, with class tables at its history.
use Rattle.std.specs.Prelude.{◌≡◌, length}
use Rattle.msg_tables.specs.History.{History, empty, log}
use Rattle.msg_tables.specs.Stands.{StandsAt}
use Rattle.msg_tables.specs.View.{TablesView}
use Rattle.msg_cache.specs.Ours.{IsOf}
use Rattle.msg_cache.specs.Views.{ArenaView, TurnView, classes}
use Rattle.msg_cache.specs.declared.keeper.Keeper.{Keeper}

-- the keeper is of the arena, which has 32 classes, and the tables are at this history
pub record Together (a : ArenaView) (k : Keeper) (t : TablesView) (h : History) : Type 0 where
  pub keeper : IsOf a k
  pub tables : StandsAt t (log h)
  pub supers : length t.supers ≡ 32
  pub all : classes a ≡ 32

abbrev pub Begin : ArenaView → Keeper → TablesView → Type 0
Begin a k t = Together a k t (empty a.key.origin)

-- the turn is of the arena, and the tables are at its history
abbrev pub IsBed : ArenaView → Keeper → TablesView → TurnView → Type 0
IsBed a k t turn = Together a k t turn.history × (turn.table ≡ a.table)
