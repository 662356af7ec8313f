-- The contracts' view of an arena, of senders and of the right to change.
use Rattle.std.specs.Prelude.{◌≡◌, ◌<◌, ℕ}
use Rattle.atomic_table.specs.Seated.{TableId}
use Rattle.msg_names.specs.Number.{selector_number, imp_number}
use Rattle.msg_names.specs.declared.value.ClassRef.{ClassRef}
use Rattle.msg_names.specs.declared.value.ImpRef.{ImpRef}
use Rattle.msg_names.specs.declared.value.Selector.{Selector}
use Rattle.msg_buckets.specs.Word.{sel_of, imp_of}
use Rattle.msg_tables.specs.Origin.{class_total}
use Rattle.msg_tables.specs.History.{History, lookup}
use Rattle.msg_model.specs.State.{Layout}
use Rattle.msg_cache.specs.declared.view.SenderView.{SenderView}
use Rattle.msg_cache.specs.Layout.{SettingView, layout_of, probe_at}
use Rattle.msg_cache.specs.Plays.{newcomer}
use Rattle.msg_cache.specs.Record.{Probes, Hits}

-- which table an arena is, and what that was made for
pub record ArenaView : Type 0 where
  pub table : TableId
  pub key : SettingView

-- how many classes and senders there are, and the arrays' capacities
abbrev pub layout : ArenaView → Layout
layout a = layout_of a.key

-- how many classes have numbers
abbrev pub classes : ArenaView → ℕ
classes a = class_total a.key.origin

-- what a sender knows, of which table, and where its probe word is
pub record ProberView : Type 0 where
  pub table : TableId
  pub place : ℕ
  pub sender : SenderView

-- the sender is of the arena
abbrev pub IsSenderOf : ArenaView → ProberView → Type 0
IsSenderOf a p = (p.table ≡ a.table) × (p.sender.number < a.key.senders) × (p.place ≡ probe_at (layout a) p.sender.number)

-- the history as the one who may change it knows it, and of which table
pub record TurnView : Type 0 where
  pub table : TableId
  pub history : History

-- the turn is of the arena, and is at this history
abbrev pub IsTurnAt : ArenaView → History → TurnView → Type 0
IsTurnAt a h t = (t.table ≡ a.table) × (t.history ≡ h)

-- a sender of the arena was just given out, with this number and at this history
abbrev pub IsNewcomer : ArenaView → ℕ → History → ProberView → Type 0
IsNewcomer a n h p = IsSenderOf a p × (p.sender ≡ newcomer n h)

-- at this history the lookup finds the implementation
abbrev pub IsFoundAt : History → ClassRef → Selector → ImpRef → Type 0
IsFoundAt h c s i = imp_number i ≡ lookup h c (selector_number s)

-- the word has a selector, and the implementation that the lookup finds for it at this history
abbrev pub IsEntryFor : History → ClassRef → ℕ → Type 0
IsEntryFor h c word = (0 < sel_of word) × (imp_of word ≡ lookup h c (sel_of word))

-- a sender's view went from v to w by a probe of the class reference and the selector
abbrev pub ProbesFor : ArenaView → ClassRef → Selector → SenderView → SenderView → Type 0
ProbesFor a c s v w = Probes (layout a) c (selector_number s) v w

-- the last probe hit with the implementation, and the lookup finds that at what the sender has seen
abbrev pub HitsAndIsFound : SenderView → ClassRef → Selector → ImpRef → Type 0
HitsAndIsFound v c s i = Hits v.last (imp_number i) × IsFoundAt v.front c s i
