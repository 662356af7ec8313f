-- The numbers that name something, and what changes in numbers do.
use Rattle.std.specs.Prelude.{◌≡◌, ◌≢◌, ◌<◌, true, ℕ, ◌==◌, nat_lt, if◌then◌else◌, List, [], ◌∷◌, map, Option, Some, None, option_map, ◌⊎◌, Contains}
use Rattle.msg_tables.specs.declared.change.Change.{Change}
use Rattle.msg_tables.specs.FaultNumber.{change_fault_number}
use Rattle.msg_tables.specs.History.{and_then, log}
use Rattle.msg_tables.specs.Refusal.{refusal}
use Rattle.msg_tables.specs.RoomLaws.{adds_no_row}
use Rattle.msg_runtime.specs.Calls.{HoldsRoomFor, KeepsAtLeastRoom, LacksRoomFor, beside_room}
use Rattle.msg_runtime.specs.Spared.{ChillsAffected, OnlyFlushesOf, SparesOthers}
use Rattle.msg_runtime.specs.View.{RuntimeView}
use Rattle.msg_runtime.specs.declared.runtime.TheConstants.{OPENING_ENTRIES}
use Rattle.msg_host.specs.declared.changing.MethodRow.{MethodRow}
use Rattle.msg_host.specs.declared.fault.AskFault.{AskFault}
use Rattle.msg_host.specs.declared.fault.AskFault.TheVariants.{NoClass, NoSelector, BadRow}

-- the numbers of the faults of questions
abbrev pub ask_fault_number : AskFault → ℕ
ask_fault_number NoClass = 66
ask_fault_number NoSelector = 67
ask_fault_number BadRow = 75

-- the number of the fault that a selector's number is 0
abbrev pub want_of_selector : ℕ
want_of_selector = ask_fault_number NoSelector

-- the number that says that an array has too few places: no fault of a question or a change has it
abbrev pub want_of_room : ℕ
want_of_room = 76

-- why a question among this number of classes isn't asked for this class and selector
abbrev pub ask_fault : ℕ → ℕ → ℕ → Option AskFault
ask_fault classes class sel = if nat_lt class classes then (if sel == 0 then Some NoSelector else None) else Some NoClass

-- the number of a lack of memory among the faults of changes
abbrev pub want_of_memory : ℕ
want_of_memory = 7

-- the number of a fault that is no lack of memory or of room
abbrev pub IsRefusal : ℕ → Type 0
IsRefusal n = (n ≢ 0) × (n ≢ want_of_memory) × (n ≢ want_of_room)

-- the selector's number is 0, and the result says so; nothing has changed
abbrev pub LacksSelector : RuntimeView → RuntimeView → ℕ → ℕ → Type 0
LacksSelector v w sel n = sel ≡ 0 → (n ≡ want_of_selector) × (w ≡ v)

-- nothing has changed, except that there may be more room, and what was written last may be
-- forgotten
pub record IsLeft (v w : RuntimeView) : Type 0 where
  pub same : beside_room w ≡ beside_room v
  pub room : KeepsAtLeastRoom v w
  pub written : (w.written.entries ≡ v.written.entries) ⊎ (w.written.entries ≡ [])

-- A change took a runtime from v to w with the result n: 0 if it was made, and otherwise its
-- fault's number, and nothing has changed.
pub record AnswersChange (v w : RuntimeView) (x : Change) (n : ℕ) : Type 0 where
  pub arena : w.arena ≡ v.arena
  pub given : w.keeper.given ≡ v.keeper.given
  pub rested : w.rested ≡ v.rested
  pub made : n ≡ 0 → (refusal (log v.keeper.history) x ≡ None) × (w.keeper.history ≡ and_then v.keeper.history (x ∷ []))
  pub held : n ≡ 0 → HoldsRoomFor v w (x ∷ [])
  pub room : n ≡ 0 → KeepsAtLeastRoom v w
  -- the caches that the change affects are flushed, the others are left as they were, and nothing
  -- but these flushes is remembered and counted
  pub cold : n ≡ 0 → ChillsAffected (x ∷ []) v w
  pub spared : n ≡ 0 → SparesOthers (x ∷ []) v w
  pub flushes : n ≡ 0 → OnlyFlushesOf v w
  pub left : n ≢ 0 → IsLeft v w
  pub fault : n ≢ 0 → n ≢ want_of_memory → option_map change_fault_number (refusal (log v.keeper.history) x) ≡ Some n
  -- a lack of memory is returned only if nothing else forbids the change, and there is too little
  -- room
  pub memory : n ≡ want_of_memory → (refusal (log v.keeper.history) x ≡ None) × LacksRoomFor v (x ∷ [])
  -- a change that adds no row needs no memory, if there is room for what an exchange writes: as
  -- much as at the opening
  pub no_row : adds_no_row x ≡ true → n ≡ want_of_memory → v.written.room < OPENING_ENTRIES

-- the rows of a method list, as pairs of numbers
abbrev pub pairs_of : List MethodRow → List (ℕ × ℕ)
pairs_of rows = map (λ (r : MethodRow). (r.sel, r.imp)) rows

-- why rows aren't taken as a method list: a selector has the number 0, or memory is lacking
abbrev pub IsListFault : List MethodRow → ℕ → Type 0
IsListFault rows n = (n ≡ want_of_memory) ⊎ ((n ≡ ask_fault_number NoSelector) × Contains (map (λ (r : MethodRow). r.sel) rows) 0)
