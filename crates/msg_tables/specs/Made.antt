-- The outcome of a list of changes that is made as one.
use Rattle.std.specs.Prelude.{◌≡◌, ◌≢◌, ◌<◌, ◌≤◌, ◌+◌, ◌*◌, List, [], ◌∷◌, Some, None, length, take}
use Rattle.msg_tables.specs.declared.apply_all.Refused.{Refused}
use Rattle.msg_tables.specs.declared.change.Change.{Change}
use Rattle.msg_tables.specs.declared.entry.Entry.{Entry}
use Rattle.msg_tables.specs.declared.fault.ChangeFault.TheVariants.{Memory}
use Rattle.msg_tables.specs.History.{History, and_then, log}
use Rattle.msg_tables.specs.Journal.{undo_journal}
use Rattle.msg_tables.specs.Log.{table}
use Rattle.msg_tables.specs.Several.{refused_from}
use Rattle.msg_tables.specs.Undo.{undo_all}

-- the history with one more list of changes that are made as one, if there are any
abbrev pub and_as_one : History → List Change → History
and_as_one h [] = h
and_as_one h (x ∷ xs) = and_then h (x ∷ xs)

-- the changes were accepted one after another, and the history has them added as one list
pub record AreMade (xs : List Change) (old new : History) : Type 0 where
  pub accepted : refused_from 0 (log old) xs ≡ None
  pub history : new ≡ and_as_one old xs

-- The first change that would be refused is named, with its fault. If memory was lacking, neither
-- the changes before it nor the change itself would be refused.
pub record AreRefused (xs : List Change) (h : History) (r : Refused) : Type 0 where
  pub fault : r.fault ≢ Memory → refused_from 0 (log h) xs ≡ Some (r.place, r.fault)
  pub memory : r.fault ≡ Memory → refused_from 0 (log h) (take (r.place + 1) xs) ≡ None
  pub before : refused_from 0 (log h) (take r.place xs) ≡ None
  pub place : r.place < length xs

-- What was written gives the way back from changes that are made at a history.
pub record TellsWayBack (xs : List Change) (h : History) (entries : List Entry) : Type 0 where
  pub undo : undo_all (table (log h)) xs ≡ undo_journal entries
