-- Histories: lists of changes, each made as one, so that nobody sees a part of a list.
use Rattle.std.specs.Prelude.{◌≡◌, ℕ, List, [], ◌∷◌, ◌++◌, Option}
use Rattle.msg_names.specs.declared.value.ClassRef.{ClassRef}
use Rattle.msg_tables.specs.Origin.{OriginView}
use Rattle.msg_tables.specs.declared.change.Change.{Change}
use Rattle.msg_tables.specs.Log as logs
use Rattle.msg_tables.specs.Log.{Log}

-- what tables were opened from, and the lists of changes that were accepted, oldest first
pub record History : Type 0 where
  pub origin : OriginView
  pub changes : List (List Change)

-- the history of tables that were just opened
abbrev pub empty : OriginView → History
empty o = record { origin = o; changes = [] }

-- the history with one more list of changes that are made as one
abbrev pub and_then : History → List Change → History
and_then h xs = record { origin = h.origin; changes = h.changes ++ xs ∷ [] }

-- the changes of all lists, one after another
abbrev pub one_by_one : List (List Change) → List Change
one_by_one [] = []
one_by_one (xs ∷ more) = xs ++ one_by_one more

-- the log of a history, which is what tables know of it: its changes, one after another
abbrev pub log : History → Log
log h = record { origin = h.origin; changes = one_by_one h.changes }

-- the number of the implementation that a lookup finds at a history, or 0 for forwarding
abbrev pub lookup : History → ClassRef → ℕ → ℕ
lookup h c s = logs.lookup (log h) c s

-- the class reference that has the method that a lookup finds
abbrev pub holder : History → ClassRef → ℕ → Option ClassRef
holder h c s = logs.holder (log h) c s

-- the superclass of a class reference
abbrev pub superclass : History → ClassRef → Option ClassRef
superclass h c = logs.superclass (log h) c

-- p begins with g: g is a prefix of p
pub record BeginsWith (p g : History) : Type 0 where
  pub same : p.origin ≡ g.origin
  pub rest : (more : List (List Change)) × (p.changes ≡ g.changes ++ more)
