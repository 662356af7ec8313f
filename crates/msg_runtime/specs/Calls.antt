-- What the calls of a runtime do.
use Rattle.std.specs.Prelude.{◌≡◌, ◌≤◌, ◌+◌, ℕ, List, [], Bool, cond, length, slice_set, take}
use Rattle.msg_names.specs.Number.{selector_number, imp_number}
use Rattle.msg_names.specs.declared.value.ClassRef.{ClassRef}
use Rattle.msg_names.specs.declared.value.ImpRef.{ImpRef}
use Rattle.msg_names.specs.declared.value.Selector.{Selector}
use Rattle.msg_tables.specs.History.{log}
use Rattle.msg_tables.specs.Marking.{MarksAffectedByAll}
use Rattle.msg_tables.specs.declared.change.Change.{Change}
use Rattle.msg_tables.specs.Log.{table}
use Rattle.msg_tables.specs.RoomLaws.{HaveRoomFor, LackRoomFor}
use Rattle.msg_tables.specs.Undo.{undo_all}
use Rattle.msg_rows.specs.RowList.{HaveGrown}
use Rattle.msg_tables.specs.declared.apply_all.Refused.{Refused}
use Rattle.msg_tables.specs.declared.fault.ChangeFault.TheVariants.{Memory}
use Rattle.msg_runtime.specs.declared.unmade.Unmade.{Unmade}
use Rattle.msg_runtime.specs.declared.unmade.Unmade.TheVariants as unmade
use Rattle.msg_cache.specs.Counts.{after_refusal}
use Rattle.msg_cache.specs.Plays.{lent}
use Rattle.msg_cache.specs.Views.{classes, layout}
use Rattle.msg_cache.specs.declared.keeper.Keeper.{Keeper}
use Rattle.msg_cache.specs.declared.view.SenderView.{SenderView}
use Rattle.msg_runtime.specs.Parts.{AnswersMiss, AreOut, keeper_report, keeper_remembered, keeper_view}
use Rattle.msg_runtime.specs.View.{RuntimeView}

-- the runtime's keeper is this one
abbrev pub HasKeeper : Keeper → RuntimeView → Type 0
HasKeeper k r = (r.keeper ≡ keeper_view k) × (r.remembered ≡ keeper_remembered k) × (r.report ≡ keeper_report k)

-- what was found for a selector's number was filled in and counted, and the sender of the view v
-- was then shown the history
abbrev pub CachesNumber : ClassRef → ℕ → ℕ → SenderView → RuntimeView → RuntimeView → Type 0
CachesNumber c s i v r r' = AnswersMiss (layout r.arena) r.remembered c s i v r.keeper r'.keeper r.report r'.report

-- the same for a selector and an implementation
abbrev pub CachesAnswer : ClassRef → Selector → ImpRef → SenderView → RuntimeView → RuntimeView → Type 0
CachesAnswer c s i v r r' = CachesNumber c (selector_number s) (imp_number i) v r r'

-- the class references that some of these changes affect are marked, in addition to those that were
abbrev pub MarksAllReached : RuntimeView → List Change → List Bool → List Bool → Type 0
MarksAllReached r xs old new = MarksAffectedByAll (classes r.arena) (log r.keeper.history) xs old new

-- there is the same room, and what was written last is
abbrev pub KeepsRoom : RuntimeView → RuntimeView → Type 0
KeepsRoom r r' = (r'.rooms ≡ r.rooms) × (r'.written ≡ r.written)

-- there is no less room
pub record KeepsAtLeastRoom (r r' : RuntimeView) : Type 0 where
  pub rows : HaveGrown r.rooms r'.rooms
  pub entries : r.written.room ≤ r'.written.room

-- a runtime but for its room, and for what was written last
abbrev pub beside_room : RuntimeView → RuntimeView
beside_room r = record r { rooms = []; written = record { entries = []; room = 0 } }

-- each class reference has room for its methods
abbrev pub HasRoomForRows : RuntimeView → Type 0
HasRoomForRows r = HaveRoomFor r.rooms (log r.keeper.history) []

-- there is too little room for a list of changes
abbrev pub LacksRoomFor : RuntimeView → List Change → Type 0
LacksRoomFor r xs = LackRoomFor r.rooms r.written.room (log r.keeper.history) xs

-- if memory was lacking, this held for the changes before the reported place and for that one
abbrev pub WantsRoom : RuntimeView → List Change → Refused → Type 0
WantsRoom r xs refused = refused.fault ≡ Memory → LacksRoomFor r (take (refused.place + 1) xs)

-- the same, if that is why the list wasn't made
abbrev pub WantsRoomIf : RuntimeView → List Change → Unmade → Type 0
WantsRoomIf r xs (unmade.Refused refused) = WantsRoom r xs refused
WantsRoomIf r xs (unmade.TooLong n) = Unit {0}

-- a list was made of r, and there is room now for the methods that it needed at any time, and for
-- as many entries as it wrote
pub record HoldsRoomFor (r r' : RuntimeView) (xs : List Change) : Type 0 where
  pub rows : HaveRoomFor r'.rooms (log r.keeper.history) xs
  pub entries : length (undo_all (table (log r.keeper.history)) xs) ≤ r'.written.room

-- what the keeper knows and remembers is the same, but that the turn is lent
abbrev pub KeepsCaches : RuntimeView → RuntimeView → Type 0
KeepsCaches r r' = (r'.keeper ≡ lent r.keeper) × (r'.remembered ≡ r.remembered)

-- the turn is lent if it is true, and else nothing has changed
abbrev pub LendsTurnIf : Bool → RuntimeView → RuntimeView → Type 0
LendsTurnIf b r r' = r'.keeper ≡ cond b (lent r.keeper) r.keeper

-- a sender that is refused is counted, and no other
abbrev pub CountsRefusalUnless : Bool → RuntimeView → RuntimeView → Type 0
CountsRefusalUnless b r r' = r'.report ≡ cond b r.report (after_refusal r.report)

-- a sender of this view rests: the number of changes is noted for its number
abbrev pub RestsAs : SenderView → RuntimeView → RuntimeView → Type 0
RestsAs v r r' = r'.rested ≡ slice_set r.rested v.number (length r.keeper.history.changes)

-- each sender number that there may be is given out
abbrev pub AllAreOut : RuntimeView → Type 0
AllAreOut r = AreOut r.arena.key.senders r.keeper
