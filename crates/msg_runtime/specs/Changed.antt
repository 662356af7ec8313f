-- The outcome of a change at a history.
use Rattle.std.specs.Prelude.{◌≡◌, ◌≢◌, ◌<◌, ◌∷◌, [], ℕ, List, Some, None, length}
use Rattle.msg_tables.specs.History.{History, and_then, log}
use Rattle.msg_tables.specs.Log.{table}
use Rattle.msg_tables.specs.Made.{AreRefused}
use Rattle.msg_tables.specs.Refusal.{refusal}
use Rattle.msg_tables.specs.Several.{refused_from}
use Rattle.msg_tables.specs.Undo.{undo_all}
use Rattle.msg_tables.specs.declared.change.Change.{Change}
use Rattle.msg_tables.specs.declared.fault.ChangeFault.{ChangeFault}
use Rattle.msg_tables.specs.declared.fault.ChangeFault.TheVariants.{Memory}
use Rattle.msg_runtime.specs.declared.unmade.Unmade.{Unmade}
use Rattle.msg_runtime.specs.declared.unmade.Unmade.TheVariants.{Refused, TooLong}

-- nothing forbids it
abbrev pub IsAccepted : History → Change → Type 0
IsAccepted h x = refusal (log h) x ≡ None

-- it would be refused for this fault
abbrev pub IsRefusedFor : History → Change → ChangeFault → Type 0
IsRefusedFor h x fault = refusal (log h) x ≡ Some fault

-- the same, if the fault isn't a lack of memory
abbrev pub IsRefusedAt : History → Change → ChangeFault → Type 0
IsRefusedAt h x fault = fault ≢ Memory → IsRefusedFor h x fault

-- it was accepted, the history has it added, and changes were then made this number of times
abbrev pub IsMadeAt : History → Change → History → ℕ → Type 0
IsMadeAt old x new count = IsAccepted old x × (new ≡ and_then old (x ∷ [])) × (count ≡ length new.changes)

-- why a list isn't made at a history: one change of it is refused, or its way back has this number
-- of changes, which is more than it may have
abbrev pub IsUnmade : List Change → History → ℕ → Unmade → Type 0
IsUnmade xs h most (Refused r) = AreRefused xs h r
IsUnmade xs h most (TooLong n) = (refused_from 0 (log h) xs ≡ None) × (n ≡ length (undo_all (table (log h)) xs)) × (most < n)
