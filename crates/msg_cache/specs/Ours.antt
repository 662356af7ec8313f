-- The keeper's view, when it is of an arena, and what its calls do.
use Rattle.std.specs.Prelude.{◌≡◌, ◌<◌, ◌≤◌, ◌⊎◌, ℕ, List, [], ◌∷◌, Bool, true, None, ◌==◌, if◌then◌else◌, cond, length, slice_index}
use Rattle.msg_names.specs.Number.{selector_number, imp_number}
use Rattle.msg_names.specs.declared.value.ClassRef.{ClassRef}
use Rattle.msg_names.specs.declared.value.ImpRef.{ImpRef}
use Rattle.msg_names.specs.declared.value.Selector.{Selector}
use Rattle.msg_buckets.specs.Word.{word_of}
use Rattle.msg_tables.specs.Affected.{is_affected}
use Rattle.msg_tables.specs.History.{lookup, log}
use Rattle.msg_tables.specs.Origin.{OriginView}
use Rattle.msg_tables.specs.Several.{is_affected_by_all}
use Rattle.msg_tables.specs.declared.change.Change.{Change}
use Rattle.msg_model.specs.State.{Layout, awaits, size}
use Rattle.msg_cache.specs.declared.answer.Filled.{Filled}
use Rattle.msg_cache.specs.declared.answer.Report.{Report}
use Rattle.msg_cache.specs.declared.answer.Placement.{Placement}
use Rattle.msg_cache.specs.declared.config.Config.{Config}
use Rattle.msg_cache.specs.declared.keeper.Keeper.{Keeper}
use Rattle.msg_cache.specs.declared.keeper.TheConstants.{CLOSED}
use Rattle.msg_cache.specs.declared.view.KeeperView.{KeeperView}
use Rattle.msg_cache.specs.Config.{refusal_of, setting_of}
use Rattle.msg_cache.specs.Counts.{CountsFill}
use Rattle.msg_cache.specs.Flushes.{OnlyFlushes}
use Rattle.msg_cache.specs.Keeping.{CanUse, Fills, InOrder, filled, grown, header, remember, placement_of}
use Rattle.msg_cache.specs.Layout.{stamp_at}
use Rattle.msg_cache.specs.Plays.{committed, flushed, keeper_of, lent, stored}
use Rattle.msg_cache.specs.Rule.{first_keeper, live_in}
use Rattle.msg_cache.specs.Views.{ArenaView, classes, layout}

-- what the keeper's seat knows
abbrev pub view : Keeper → KeeperView
view k = keeper_of k.seat.me.0

-- the keeper is of the arena, and its counts are in order
abbrev pub IsOf : ArenaView → Keeper → Type 0
IsOf a k = (k.seat.table_id ≡ a.table) × InOrder lookup a.key (view k) k.remembered.items k.occupied.items × (length k.used.items ≡ length a.key.capacities)

-- no fault holds of the config, and these are an arena and its keeper as they are made by it
abbrev pub AreOpened : OriginView → Config → ArenaView → Keeper → Type 0
AreOpened o config a k = (refusal_of o config ≡ None) × (a.key ≡ setting_of o config) × (view k ≡ first_keeper (setting_of o config)) × IsOf a k

-- ---- what calls do

-- the view changed in this way if it is true, and otherwise it is the same
abbrev pub ChangesIf : Bool → (KeeperView → KeeperView) → Keeper → Keeper → Type 0
ChangesIf b f k k' = view k' ≡ cond b (f (view k)) (view k)

-- the report changed in this way if it is true, and otherwise it is the same
abbrev pub CountsIf : Bool → (Report → Report) → Keeper → Keeper → Type 0
CountsIf b f k k' = k'.report ≡ cond b (f k.report) k.report

-- the entry was stored at a place of the array
abbrev pub FillsPlace : ArenaView → ℕ → ℕ → Selector → ImpRef → Keeper → Keeper → Type 0
FillsPlace a array place s i k k' = view k' ≡ filled (layout a) array place (word_of (selector_number s) (imp_number i)) (view k)

-- the array was installed, and the entry was stored in it
abbrev pub GrowsInto : ArenaView → ClassRef → ℕ → Selector → ImpRef → Keeper → Keeper → Type 0
GrowsInto a c array s i k k' = view k' ≡ grown (layout a) c (selector_number s) (imp_number i) array (view k)

-- what an entry needs
abbrev pub placement_for : ArenaView → Keeper → ClassRef → Selector → Placement
placement_for a k c s = placement_of (layout a) k.remembered.items (view k) c (selector_number s)

-- the entry may go to this place of this array, which is the live one
abbrev pub CanUseFor : ArenaView → Keeper → ClassRef → Selector → ℕ → ℕ → Type 0
CanUseFor a k c s array place = CanUse (layout a) (view k) c (selector_number s) array place

-- a fill with this result took the keeper's view from the one to the other
abbrev pub FillsWith : ArenaView → ClassRef → Selector → ImpRef → Keeper → Keeper → Filled → Type 0
FillsWith a c s i k k' answer = Fills (layout a) k.remembered.items c (selector_number s) (imp_number i) (view k) (view k') answer

-- a fill with this result was counted
abbrev pub CountsFillWith : ArenaView → ClassRef → Selector → Filled → Keeper → Keeper → Type 0
CountsFillWith a c s answer k k' = CountsFill (placement_for a k c s) answer k.report k'.report

-- the capacity of the live array of the class reference, if it had one, is remembered
abbrev pub RemembersCapacity : ArenaView → ClassRef → Keeper → Keeper → Type 0
RemembersCapacity a c k k' = k'.remembered.items ≡ remember (layout a) c (header (view k) c) k.remembered.items

-- a class reference has no live array
abbrev pub HasNoArray : ArenaView → Keeper → ClassRef → Type 0
HasNoArray a k c = live_in (layout a) (view k).words c ≡ None

-- no class reference that the change affects has a live array
abbrev pub AffectedAreFlushed : ArenaView → Change → Keeper → Type 0
AffectedAreFlushed a x k = (c : ClassRef) → c.class < classes a → is_affected (log (view k).history) x c ≡ true → HasNoArray a k c

-- no class reference that some of these changes affect has a live array
abbrev pub AllAffectedAreFlushed : ArenaView → List Change → Keeper → Type 0
AllAffectedAreFlushed a xs k = (c : ClassRef) → c.class < classes a → is_affected_by_all (log (view k).history) xs c ≡ true → HasNoArray a k c

-- the stamp of a class reference
abbrev pub stamp_of : ArenaView → Keeper → ClassRef → ℕ
stamp_of a k c = slice_index (view k).words (stamp_at (layout a) c)

-- a class reference is closed: none of its notes holds
abbrev pub IsClosed : ArenaView → Keeper → ClassRef → Type 0
IsClosed a k c = stamp_of a k c ≡ CLOSED

-- the stamp of a class reference is that of a closed one
abbrev pub is_closed : Layout → KeeperView → ClassRef → Bool
is_closed z k c = slice_index k.words (stamp_at z c) == CLOSED

-- a class reference was closed, if it was open
abbrev pub closed : Layout → ClassRef → KeeperView → KeeperView
closed z c k = if is_closed z k c then k else stored (stamp_at z c) CLOSED k

-- a class reference was opened at the number of changes, if it was closed
abbrev pub opened : Layout → ClassRef → KeeperView → KeeperView
opened z c k = if is_closed z k c then stored (stamp_at z c) (size k.history) k else k

-- an opening leaves the history, the standings of arrays, the numbers that are out and since when
-- they are, and the turn unchanged
abbrev pub OpenKeeps : Type 0
OpenKeeps = (z : Layout) (c : ClassRef) (k : KeeperView) → ((opened z c k).history ≡ k.history) × ((opened z c k).standings ≡ k.standings) × ((opened z c k).given ≡ k.given) × ((opened z c k).turn ≡ k.turn) × ((opened z c k).since ≡ k.since)

-- these were closed, the first of them last
abbrev pub all_closed : Layout → List ClassRef → KeeperView → KeeperView
all_closed z [] k = k
all_closed z (c ∷ cs) k = closed z c (all_closed z cs k)

-- some class references were closed, and nothing else was done
abbrev pub ClosesSome : ArenaView → Keeper → Keeper → Type 0
ClosesSome a k k' = (cs : List ClassRef) × (view k' ≡ all_closed (layout a) cs (view k))

-- some were closed, and the changes were committed then
abbrev pub CommitsClosed : ArenaView → List Change → Keeper → Keeper → Type 0
CommitsClosed a xs k k' = (cs : List ClassRef) × (view k' ≡ lent (committed xs (all_closed (layout a) cs (view k))))

-- the class reference was closed, and flushed if it had a live array
abbrev pub Chills : ArenaView → ClassRef → Keeper → Keeper → Type 0
Chills a c k k' = (had_array : Bool) × (view k' ≡ cond had_array (flushed c (closed (layout a) c (view k))) (closed (layout a) c (view k)))

-- from the one to the other there were only flushes
abbrev pub OnlyFlushesIn : ArenaView → Keeper → Keeper → Type 0
OnlyFlushesIn a k k' = OnlyFlushes (layout a) (view k) (view k') k.remembered.items k'.remembered.items k.report k'.report

-- the class reference has no live array, and is closed
abbrev pub IsCold : ArenaView → Keeper → ClassRef → Type 0
IsCold a k c = HasNoArray a k c × IsClosed a k c

-- each that was so stays so
abbrev pub StayCold : ArenaView → Keeper → Keeper → Type 0
StayCold a k k' = (c : ClassRef) → IsCold a k c → IsCold a k' c

-- each class reference that the change affects is closed
abbrev pub AffectedAreClosed : ArenaView → Change → Keeper → Type 0
AffectedAreClosed a x k = (c : ClassRef) → c.class < classes a → is_affected (log (view k).history) x c ≡ true → IsClosed a k c

-- each class reference that some of these changes affect is closed
abbrev pub AllAffectedAreClosed : ArenaView → List Change → Keeper → Type 0
AllAffectedAreClosed a xs k = (c : ClassRef) → c.class < classes a → is_affected_by_all (log (view k).history) xs c ≡ true → IsClosed a k c

-- there may be no sender of this number, or it is given out
abbrev pub CannotBeGiven : ArenaView → ℕ → Keeper → Type 0
CannotBeGiven a n k = (a.key.senders ≤ n) ⊎ (awaits (view k).given n ≡ true)
