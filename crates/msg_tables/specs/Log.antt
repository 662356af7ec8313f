-- Logs of the class tables.
use Rattle.std.specs.Prelude.{◌≡◌, ℕ, List, [], ◌∷◌, ◌++◌, Option}
use Rattle.msg_names.specs.declared.value.ClassRef.{ClassRef}
use Rattle.msg_tables.specs.Origin.{OriginView}
use Rattle.msg_tables.specs.declared.change.Change.{Change}
use Rattle.msg_tables.specs.Chain.{super_of}
use Rattle.msg_tables.specs.Rows.{ClassTable, chain, holder_at, lookup_at}
use Rattle.msg_tables.specs.After.{opening_table, table_after}

-- what tables were opened from, and the changes that were accepted, oldest first
pub record Log : Type 0 where
  pub origin : OriginView
  pub changes : List Change

-- the log of tables that were just opened
abbrev pub empty : OriginView → Log
empty o = record { origin = o; changes = [] }

-- the log with one more change
abbrev pub and_then : Log → Change → Log
and_then h x = record { origin = h.origin; changes = h.changes ++ x ∷ [] }

-- the tables after changes, one after another
abbrev pub table_after_all : ClassTable → List Change → ClassTable
table_after_all t [] = t
table_after_all t (x ∷ xs) = table_after_all (table_after t x) xs

-- the tables at a log
unfoldable pub table : Log → ClassTable
table h = table_after_all (opening_table h.origin) h.changes

-- the number of the implementation that a lookup finds at a log, or 0 for forwarding
unfoldable pub lookup : Log → ClassRef → ℕ → ℕ
lookup h c s = lookup_at (table h) c s

-- the class reference that has the method that a lookup finds
unfoldable pub holder : Log → ClassRef → ℕ → Option ClassRef
holder h c s = holder_at (table h) c s

-- the superclass of a class reference
unfoldable pub superclass : Log → ClassRef → Option ClassRef
superclass h c = super_of (table h).supers c

-- a class reference and those above it
unfoldable pub chain_at : Log → ClassRef → List ClassRef
chain_at h c = chain (table h) c

-- p begins with g: g is a prefix of p
pub record BeginsWith (p g : Log) : Type 0 where
  pub same : p.origin ≡ g.origin
  pub rest : (more : List Change) × (p.changes ≡ g.changes ++ more)
