-- The outcome of an item's changes.
use Rattle.std.specs.Prelude.{◌≡◌, ℕ, List, length, Option, Some, None}
use Rattle.msg_image.specs.Items.{ItemParts}
use Rattle.msg_tables.specs.History.{History, log}
use Rattle.msg_tables.specs.Log.{Log}
use Rattle.msg_tables.specs.Several.{and_all, refused_from}
use Rattle.msg_tables.specs.Stands.{StandsAt}
use Rattle.msg_tables.specs.View.{TablesView}
use Rattle.msg_tables.specs.declared.apply_all.Refused.{Refused}
use Rattle.msg_tables.specs.declared.change.Change.{Change}
use Rattle.msg_tables.specs.declared.fault.ChangeFault.{ChangeFault}
use Rattle.msg_answers.specs.Serial.{history_after, outcome_at}
use Rattle.msg_answers.specs.declared.outcome.Outcome.{Outcome}

-- the tables after a list of changes, of which this is the first that was refused
abbrev pub log_after : Log → List Change → Option Refused → Log
log_after h xs None = and_all h xs
log_after h xs (Some r) = h

-- the place and the fault of what was refused
abbrev pub place_and_fault : Option Refused → Option (ℕ × ChangeFault)
place_and_fault None = None
place_and_fault (Some r) = Some (r.place, r.fault)

-- a list of changes was made as one, or the first that would be refused is returned
abbrev pub IsMadeOrRefused : List Change → TablesView → TablesView → Option Refused → Type 0
IsMadeOrRefused xs old new refused = (h : Log) → StandsAt old h → (refused_from 0 h xs ≡ place_and_fault refused) × StandsAt new (log_after h xs refused)

-- an item's changes were made, or refused
abbrev pub IsChanged : ItemParts → TablesView → TablesView → Outcome → Type 0
IsChanged item old new outcome = (h : History) → StandsAt old (log h) → (outcome ≡ outcome_at h item) × StandsAt new (log (history_after h item))

-- there are as many classes and implementations as before
abbrev pub KeepsSizes : TablesView → TablesView → Type 0
KeepsSizes old new = (length new.supers ≡ length old.supers) × (new.counts ≡ old.counts)
