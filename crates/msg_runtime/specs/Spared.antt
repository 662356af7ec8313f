-- What a list of changes does to the caches, and what it leaves of them.
use Rattle.std.specs.Prelude.{◌≡◌, ◌<◌, ℕ, Bool, true, false, List, Some, None, slice_index}
use Rattle.msg_names.specs.declared.value.ClassRef.{ClassRef}
use Rattle.msg_tables.specs.History.{log}
use Rattle.msg_tables.specs.Log.{Log}
use Rattle.msg_tables.specs.Several.{is_affected_by_all}
use Rattle.msg_tables.specs.Stands.{StandsAt}
use Rattle.msg_tables.specs.View.{TablesView}
use Rattle.msg_tables.specs.declared.change.Change.{Change}
use Rattle.msg_model.specs.State.{Layout}
use Rattle.msg_cache.specs.Flushes.{OnlyFlushes}
use Rattle.msg_cache.specs.Layout.{stamp_at}
use Rattle.msg_cache.specs.Rule.{live_in, word_in}
use Rattle.msg_cache.specs.Views.{ArenaView, classes, layout}
use Rattle.msg_cache.specs.declared.keeper.Keeper.{Keeper}
use Rattle.msg_cache.specs.declared.keeper.TheConstants.{CLOSED}
use Rattle.msg_cache.specs.declared.view.KeeperView.{KeeperView}
use Rattle.msg_runtime.specs.Parts.{keeper_view}
use Rattle.msg_runtime.specs.Reach.{flushes_all}
use Rattle.msg_runtime.specs.View.{RuntimeView}

-- A class reference has the live array that it had, with the same words, and the same stamp. So
-- what was noted of it still holds.
pub record IsSpared (z : Layout) (k k' : KeeperView) (c : ClassRef) : Type 0 where
  pub array : live_in z k'.words c ≡ live_in z k.words c
  pub words : (a : ℕ) → live_in z k.words c ≡ Some a → word_in z k'.words a ≡ word_in z k.words a
  pub stamp : slice_index k'.words (stamp_at z c) ≡ slice_index k.words (stamp_at z c)

-- each class reference of which this is false is spared
abbrev pub SparesUnless : (ClassRef → Bool) → ArenaView → Keeper → Keeper → Type 0
SparesUnless is_meant a k k' = (c : ClassRef) → is_meant c ≡ false → IsSpared (layout a) (keeper_view k) (keeper_view k') c

-- the same, at the tables' log
abbrev pub AreSpared : ArenaView → TablesView → Keeper → Keeper → (Log → ClassRef → Bool) → Type 0
AreSpared a t k k' is_meant = (h : Log) → StandsAt t h → SparesUnless (is_meant h) a k k'

-- ---- a list of changes

-- from the view v to w the class reference lost its live array if it had one, and is closed
abbrev pub IsChilled : RuntimeView → RuntimeView → ClassRef → Type 0
IsChilled v w c = (live_in (layout v.arena) w.keeper.words c ≡ None) × (slice_index w.keeper.words (stamp_at (layout v.arena) c) ≡ CLOSED)

-- so did each that the list affects
abbrev pub ChillsAffected : List Change → RuntimeView → RuntimeView → Type 0
ChillsAffected xs v w = (c : ClassRef) → c.class < classes v.arena → is_affected_by_all (log v.keeper.history) xs c ≡ true → IsChilled v w c

-- so did each, if the list flushes all
abbrev pub ChillsAll : List Change → RuntimeView → RuntimeView → Type 0
ChillsAll xs v w = flushes_all v.keeper.history.origin.counts xs ≡ true → (c : ClassRef) → c.class < classes v.arena → IsChilled v w c

-- each that it doesn't affect is spared
abbrev pub SparesOthers : List Change → RuntimeView → RuntimeView → Type 0
SparesOthers xs v w = (c : ClassRef) → is_affected_by_all (log v.keeper.history) xs c ≡ false → IsSpared (layout v.arena) v.keeper w.keeper c

-- There were only flushes: the capacity of each array that was lost is remembered, each such array
-- was counted once, and nothing else was remembered or counted.
abbrev pub OnlyFlushesOf : RuntimeView → RuntimeView → Type 0
OnlyFlushesOf v w = OnlyFlushes (layout v.arena) v.keeper w.keeper v.remembered w.remembered v.report w.report
