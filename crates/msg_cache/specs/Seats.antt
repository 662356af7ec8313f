-- The contracts' view of the seats of a table: who sits there, what is known there, and how a step
-- changes that.
use Rattle.std.specs.Prelude.{◌≡◌, ◌<◌, ℕ, List, length}
use Rattle.atomic_table.specs.Seated.{TableId}
use Rattle.atomic_table.specs.declared.shared.Seat.{Seat}
use Rattle.msg_names.specs.declared.value.ClassRef.{ClassRef}
use Rattle.msg_tables.specs.History.{lookup}
use Rattle.msg_model.specs.declared.state.Whereabouts.{Whereabouts}
use Rattle.msg_cache.specs.declared.view.SenderView.{SenderView}
use Rattle.msg_cache.specs.declared.view.KeeperView.{KeeperView}
use Rattle.msg_cache.specs.declared.view.View.{View}
use Rattle.msg_cache.specs.Keeping.{InOrder}
use Rattle.msg_cache.specs.Layout.{SettingView}
use Rattle.msg_cache.specs.Plays.{seated, kept, sender_of, keeper_of, gone_to, SawHeader}
use Rattle.msg_cache.specs.Uses.{StandingsView, settled}
use Rattle.msg_cache.specs.Views.{ProberView}

-- what the sender at the seat knows
abbrev pub sender_at : Seat ℕ View → SenderView
sender_at s = sender_of s.me.0

-- what the keeper at the seat knows
abbrev pub keeper_at : Seat ℕ View → KeeperView
keeper_at s = keeper_of s.me.0

-- it is a sender's seat, who has taken nothing of the table
abbrev pub IsSender : Seat ℕ View → Type 0
IsSender s = s.me ≡ seated (sender_at s)

-- it is the keeper's seat, who has taken nothing of the table
abbrev pub IsKeeper : Seat ℕ View → Type 0
IsKeeper s = s.me ≡ kept (keeper_at s)

-- it is the same seat of the same table
abbrev pub IsSameSeat : Seat ℕ View → Seat ℕ View → Type 0
IsSameSeat s t = (t.table_id ≡ s.table_id) × (t.id ≡ s.id)

-- the seat is one of the table, which has a word i
abbrev pub CanReach : TableId → Seat ℕ View → ℕ → Type 0
CanReach table s i = (s.table_id ≡ table) × (i < table.words)

-- ---- what steps do

-- the sender knows what a header load of c tells that found the word n, where it seeks s
abbrev pub FoundHeader : SettingView → ClassRef → ℕ → ℕ → Seat ℕ View → Seat ℕ View → Type 0
FoundHeader key c s n old new = SawHeader (length key.capacities) c s n (sender_at old) new.me

-- the sender went there, and knows what it knew
abbrev pub WentTo : Whereabouts → Seat ℕ View → Seat ℕ View → Type 0
WentTo p old new = new.me ≡ seated (gone_to (sender_at old) (sender_at old).front p)

-- the keeper knows now what this makes of what it knew
abbrev pub KnowsNow : (KeeperView → KeeperView) → Seat ℕ View → Seat ℕ View → Type 0
KnowsNow f old new = new.me ≡ kept (f (keeper_at old))

-- ---- what fields beside a seat say

-- what holds of the keeper between its calls, with the capacities that are remembered, and how many
-- entries each array has
abbrev pub IsInOrder : SettingView → Seat ℕ View → List ℕ → List ℕ → Type 0
IsInOrder key s remembered occupied = InOrder lookup key (keeper_at s) remembered occupied

-- what each array is used for, as the keeper knows it
abbrev pub uses_at : ℕ → Seat ℕ View → StandingsView
uses_at senders s = settled senders (keeper_at s).standings

-- a sender is what its seat knows, and where its probe word is
abbrev pub prober_at : Seat ℕ View → ℕ → ProberView
prober_at s place = record { table = s.table_id; place = place; sender = sender_at s }
