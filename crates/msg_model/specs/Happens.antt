-- An event that happens to a machine.
use Rattle.std.specs.Prelude.{◌≡◌, ◌≢◌, Option, Some}
use Rattle.msg_model.specs.Event.{Event, Enter, Header, Read, Leave, Fill, Install, Flush, Look, Clear, Commit}
use Rattle.msg_tables.specs.History.{lookup}
use Rattle.msg_model.specs.declared.fault.EventFault.{EventFault}
use Rattle.msg_model.specs.declared.fault.EventFault.TheVariants.{Memory}
use Rattle.msg_model.specs.State.{State}
use Rattle.msg_model.specs.Steps.{after, event_refusal, Legal}
use Rattle.msg_model.specs.View.{MachineView, layout_of, state_of}

-- the least fault for which an event is refused, if words have to agree with lookups in the class
-- tables
abbrev pub refusal_of : MachineView → Event → Option EventFault
refusal_of v e = event_refusal lookup (layout_of v) (state_of v) e

-- the event is not refused, if words have to agree with lookups in the class tables
abbrev pub IsLegal : MachineView → Event → Type 0
IsLegal v e = Legal lookup (layout_of v) (state_of v) e

-- the machine is now in a state, with its layout
pub record Becomes (old new : MachineView) (m : State) : Type 0 where
  pub layout : layout_of new ≡ layout_of old
  pub state : state_of new ≡ m

-- its state has changed in this way
abbrev pub ChangesBy : (State → State) → MachineView → MachineView → Type 0
ChangesBy f old new = Becomes old new (f (state_of old))

-- the event has happened
abbrev pub Happens : MachineView → MachineView → Event → Type 0
Happens old new e = Becomes old new (after (layout_of old) (state_of old) e)

-- the only event that may return Memory
abbrev pub IsCommit : Event → Type 0
IsCommit (Commit xs) = Unit {0}
IsCommit (Enter n) = ⊥
IsCommit (Header n c) = ⊥
IsCommit (Read n p) = ⊥
IsCommit (Leave n) = ⊥
IsCommit (Fill c p word) = ⊥
IsCommit (Install c a) = ⊥
IsCommit (Flush c) = ⊥
IsCommit (Look n) = ⊥
IsCommit (Clear a p) = ⊥

-- the event is refused for this fault, unless that is memory
abbrev pub IsRefusedUnlessMemory : MachineView → Event → EventFault → Type 0
IsRefusedUnlessMemory v e fault = fault ≢ Memory → refusal_of v e ≡ Some fault

-- the event is a commit that is not refused
abbrev pub IsLegalCommit : MachineView → Event → Type 0
IsLegalCommit v e = IsLegal v e × IsCommit e
