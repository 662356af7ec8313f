-- The contracts' view of a runtime.
use Rattle.std.specs.Prelude.{ℕ, List}
use Rattle.msg_cache.specs.Views.{ArenaView}
use Rattle.msg_cache.specs.declared.answer.Report.{Report}
use Rattle.msg_cache.specs.declared.view.KeeperView.{KeeperView}
use Rattle.msg_tables.specs.Noted.{WrittenView}

-- the contracts' view of a runtime
pub record RuntimeView : Type 0 where
  -- the arena whose caches it keeps
  pub arena : ArenaView
  -- what its keeper knows: the history, at which its tables are, the caches, and who is given out
  pub keeper : KeeperView
  -- the capacity that the next array of each class reference without one has, or 0 for the least
  pub remembered : List ℕ
  -- what its keeper counted
  pub report : Report
  -- of each class reference, how many methods there is room for
  pub rooms : List ℕ
  -- what the last list of changes wrote, and the room for what the next one writes
  pub written : WrittenView
  -- of each sender number, how many changes there were when its sender rested last, or was given
  -- out
  pub rested : List ℕ
