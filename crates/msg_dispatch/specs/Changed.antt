-- Where a turn is, and what a list of changes would reach.
use Rattle.std.specs.Prelude.{◌≡◌, ◌≢◌, ℕ, Bool, List, length, take}
use Rattle.msg_tables.specs.History.{History, log}
use Rattle.msg_tables.specs.Marking.{MarksAffectedByAll}
use Rattle.msg_tables.specs.Origin.{class_total}
use Rattle.msg_tables.specs.declared.apply_all.Refused.{Refused}
use Rattle.msg_tables.specs.declared.change.Change.{Change}
use Rattle.msg_tables.specs.declared.fault.ChangeFault.TheVariants.{Memory}
use Rattle.msg_cache.specs.Views.{ArenaView, TurnView, classes}

-- the turn is of the arena, at a history of its origin to which this number of lists of changes
-- lead
abbrev pub IsTurnAfter : ArenaView → TurnView → ℕ → Type 0
IsTurnAfter a t count = (t.table ≡ a.table) × (t.history.origin ≡ a.key.origin) × (count ≡ length t.history.changes)

-- beside those that were marked, the class references are marked whose lookups the changes may
-- alter
abbrev pub MarksAllReached : History → List Change → List Bool → List Bool → Type 0
MarksAllReached h xs old new = MarksAffectedByAll (class_total h.origin) (log h) xs old new

-- those that the changes may alter which are before the one that would be refused, where that isn't
-- for lack of memory
abbrev pub MarksBefore : History → List Change → List Bool → List Bool → Refused → Type 0
MarksBefore h xs old new r = r.fault ≢ Memory → MarksAllReached h (take r.place xs) old new

-- the same for all classes of an arena, at the history of a turn
abbrev pub MarksAll : ArenaView → TurnView → List Change → List Bool → List Bool → Type 0
MarksAll a t xs old new = MarksAffectedByAll (classes a) (log t.history) xs old new

abbrev pub MarksTo : ArenaView → TurnView → List Change → List Bool → List Bool → Refused → Type 0
MarksTo a t xs old new r = r.fault ≢ Memory → MarksAll a t (take r.place xs) old new
