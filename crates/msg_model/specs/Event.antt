-- The events of the machine.
use Rattle.std.specs.Prelude.{ℕ, List, [], ◌∷◌}
use Rattle.msg_names.specs.declared.value.ClassRef.{ClassRef}
use Rattle.msg_tables.specs.declared.change.Change.{Change}
use Rattle.msg_model.specs.declared.event.Event as made
use Rattle.msg_model.specs.declared.event.Event.TheVariants as by

-- one load or one store of one word that threads share
pub data Event : Type 0 where
  Enter : ℕ → Event
  Header : ℕ → ClassRef → Event
  Read : ℕ → ℕ → Event
  Leave : ℕ → Event
  Fill : ClassRef → ℕ → ℕ → Event
  Install : ClassRef → ℕ → Event
  Flush : ClassRef → Event
  Look : ℕ → Event
  Clear : ℕ → ℕ → Event
  -- the count of changes is stored, after changes that are made as one
  Commit : List Change → Event

-- the commit of one change
abbrev pub commit_of : Change → Event
commit_of x = Commit (x ∷ [])

-- what is applied to a `Machine`, whose commits are of one change each
abbrev pub event_of : made.Event → Event
event_of (by.Enter n) = Enter n
event_of (by.Header n c) = Header n c
event_of (by.Read n p) = Read n p
event_of (by.Leave n) = Leave n
event_of (by.Fill c p word) = Fill c p word
event_of (by.Install c a) = Install c a
event_of (by.Flush c) = Flush c
event_of (by.Look n) = Look n
event_of (by.Clear a p) = Clear a p
event_of (by.Commit x) = commit_of x
