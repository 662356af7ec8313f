-- Since how many changes each sender that is out has rested.
use Rattle.std.specs.Prelude.{◌≡◌, ◌≤◌, ◌⊎◌, ℕ, Bool, List, length, slice_index, true}
use mathlib.Core.Option.{some}
use lib.ListN.{get_elem?}
use Rattle.atomic_table.specs.Table.{State as Table}
use Rattle.msg_tables.specs.History.{lookup, BeginsWith, History}
use Rattle.msg_model.specs.State.{awaits, size}
use Rattle.msg_cache.specs.Layout.{SettingView}
use Rattle.msg_cache.specs.Rule.{holds, since_of}
use Rattle.msg_cache.specs.declared.view.KeeperView.{KeeperView}
use Rattle.msg_cache.specs.declared.view.SenderView.{SenderView}
use Rattle.msg_cache.specs.declared.view.View.{View}
use Rattle.msg_cache.specs.declared.view.View.TheVariants.{Keeper, Sender}

-- n is the least of count and of the numbers of those that are out
pub record IsLeastOut (given : List Bool) (ns : List ℕ) (count n : ℕ) : Type 0 where
  pub most : n ≤ count
  pub all : (k : ℕ) → awaits given k ≡ true → n ≤ slice_index ns k
  pub some : (n ≡ count) ⊎ ((k : ℕ) × (awaits given k ≡ true) × (slice_index ns k ≡ n))

-- Of each sender number it is noted how many changes there were when its sender rested last, or was
-- given out.
pub record AreRested (k : KeeperView) (rested : List ℕ) : Type 0 where
  pub count : length rested ≡ length k.given
  -- whoever has the number has seen no fewer
  pub since : (n : ℕ) → awaits k.given n ≡ true → slice_index rested n ≤ since_of k.since n
  pub within : (n : ℕ) → slice_index rested n ≤ size k.history

-- this is so of each sender, whatever the table is whose keeper knows this
abbrev pub OfEachSender : SettingView → KeeperView → (SenderView → Type 0) → Type 0
OfEachSender key k P = (s : Table ℕ View) → holds lookup key s → (chair : ℕ) → get_elem? s.views chair ≡ some (Keeper k)
    → (id : ℕ) (v : SenderView) → get_elem? s.views id ≡ some (Sender v) → P v

-- each sender has seen n changes or more
abbrev pub HaveAllSeen : SettingView → KeeperView → ℕ → Type 0
HaveAllSeen key k n = OfEachSender key k (λ v. n ≤ size v.front)

-- each history that begins with what the sender has seen has n changes or more
abbrev pub SeesNoOlder : ℕ → SenderView → Type 0
SeesNoOlder n v = (later : History) → BeginsWith later v.front → n ≤ size later

-- once each sender has seen n changes, none goes by an older history, since what it sees later
-- begins with what it has seen
abbrev pub NoLaterIsOlder : Type 0
NoLaterIsOlder = (key : SettingView) (k : KeeperView) (n : ℕ) → HaveAllSeen key k n → OfEachSender key k (SeesNoOlder n)
